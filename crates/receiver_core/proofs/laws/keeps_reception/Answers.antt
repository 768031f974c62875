use Rattle.std.proofs.Common.{subst, arith}
use Rattle.picture_core.specs.Contents.{life_of}
use Rattle.picture_core.specs.Kept.{IsStore, live_entries, put_all}
use Rattle.receiver_core.specs.Laws.{entries_heard}
use Rattle.receiver_core.specs.Reception.{contents}
use Rattle.receiver_core.proofs.Receptions.{arrivals_added, contents_added, lives_contents, lives_heard}
use Rattle.receiver_core.proofs.laws.keeps_reception.Goals as goal

pub returns-clause-arrivals : goal.returns-clause-arrivals
returns-clause-arrivals c = arrivals_added

pub returns-clause-entries : goal.returns-clause-entries
returns-clause-entries c = λ table past heard last kept below store.
    let more = entries_heard table past heard in
    let payloads = c.life_of_entries.ensures.payload in
    let monotone = c.life_of_entries.ensures.all (life_of table) (contents table past) more
    (lives_contents payloads table past) (lives_heard payloads table past heard) in
    let put = c.store_of_entries.ensures.put_all last (contents table past) kept more store monotone in
    let forgotten = c.store_may_forget.ensures.forgets last heard.moment heard.moment _ (put_all more kept) below
    (omega arith) put in
    subst (λ es. IsStore heard.moment es (live_entries heard.moment (put_all more kept)))
    (contents_added c.completed_grows.ensures table past heard) forgotten
