use Rattle.picture_core.proofs.Pictures.{store_empty, store_put, store_put_all}
use Rattle.picture_core.proofs.laws.store_of_entries.Goals as goal

pub returns-clause-empty : goal.returns-clause-empty
returns-clause-empty c = store_empty

pub returns-clause-put : goal.returns-clause-put
returns-clause-put c = store_put

pub returns-clause-put_all : goal.returns-clause-put_all
returns-clause-put_all c = store_put_all
