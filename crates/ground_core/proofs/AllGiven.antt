-- What an accepted update says is sound, given in time, and newer than all of its keys before it.
use Rattle.ground_core.specs.Update.{text, block, blanks}
use Rattle.ground_core.specs.Sound.{AcceptedIsGiven}
use Rattle.ground_core.proofs.Given.{TextLayers, text-accepted}
use Rattle.ground_core.proofs.GivenRadar.{RadarLayers, block-accepted, blanks-accepted}

pub accepted-given : TextLayers → RadarLayers → AcceptedIsGiven
accepted-given texts radar table station before moment (text version chars) is_table is =
    text-accepted texts table station before moment version chars is_table is
accepted-given texts radar table station before moment (block version key intensities) is_table is =
    block-accepted radar table station before moment version key intensities is_table is
accepted-given texts radar table station before moment (blanks version product scale south numbers) is_table is =
    blanks-accepted radar table station before moment version product scale south numbers is_table is
