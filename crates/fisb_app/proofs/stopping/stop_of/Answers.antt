use Rattle.fisb_app.proofs.Steps.{told-text}
use Rattle.fisb_app.proofs.stopping.stop_of.Goals as goal

pub returns-in-BadText : goal.returns-in-BadText
returns-in-BadText c = rw c.in-BadText.is (λ last refusal is. told-text last refusal _ _ c.stop_of_text.ensures is)
