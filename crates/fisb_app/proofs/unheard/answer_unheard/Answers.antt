use Rattle.fisb_app.proofs.Steps.{unheard-clock, unheard-lost, unheard-invalid}
use Rattle.fisb_app.proofs.unheard.answer_unheard.Goals as goal

pub returns-in-Clock : goal.returns-in-Clock
returns-in-Clock c = rw c.in-Clock.is (λ table past air is. unheard-clock past _ _ air is)

pub returns-in-Lost : goal.returns-in-Lost
returns-in-Lost c = rw c.in-Lost.is (λ table past air is. unheard-lost table past _ _ air _ is c.of.ensures)

pub returns-in-NoApplication : goal.returns-in-NoApplication
returns-in-NoApplication c = rw c.in-NoApplication.is (λ table past air is. unheard-invalid table past _ air _ is c.of-in-NoApplication.ensures)
