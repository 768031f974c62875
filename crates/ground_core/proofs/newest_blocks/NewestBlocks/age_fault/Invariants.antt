use Rattle.std.proofs.Common.{◌≡◌, map, drop, Option}
use Rattle.ground_core.specs.Refusal.{GiveRefusal, age_refusal}
use Rattle.ground_core.specs.Told.{latest_version}
use Rattle.ground_core.specs.Views.{latest_block, area_keys}
use Rattle.ground_core.proofs.newest_blocks.NewestBlocks.age_fault.Given as goal

abbrev pub invariant-loop-number : goal.invariant-loop-number
invariant-loop-number l = record {
  passes : (later : Option GiveRefusal) → age_refusal l.version (map (λ key. latest_version (latest_block l.self key)) (area_keys l.area l.numbers)) later
      ≡ age_refusal l.version (map (λ key. latest_version (latest_block l.self key)) (area_keys l.area (drop l.number-index l.numbers))) later;
}
