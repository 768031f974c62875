use Rattle.picture_core.proofs.Pictures.{all_monotone_by_life, monotone_by_life}
use Rattle.picture_core.proofs.PicturesLife.{payload-HaveLife, report-HaveLife}
use Rattle.picture_core.proofs.RadarLife.{blocks-HaveLife}
use Rattle.picture_core.proofs.laws.life_of_entries.Goals as goal

pub returns-clause-one : goal.returns-clause-one
returns-clause-one c = monotone_by_life

pub returns-clause-all : goal.returns-clause-all
returns-clause-all c = all_monotone_by_life

pub returns-clause-report : goal.returns-clause-report
returns-clause-report c = report-HaveLife

pub returns-clause-blocks : goal.returns-clause-blocks
returns-clause-blocks c = blocks-HaveLife

pub returns-clause-payload : goal.returns-clause-payload
returns-clause-payload c = payload-HaveLife
