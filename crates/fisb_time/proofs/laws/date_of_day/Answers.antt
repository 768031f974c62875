use Rattle.fisb_time.proofs.DateLemmas.{date_of-is, date_of-by}
use Rattle.fisb_time.proofs.laws.date_of_day.Goals as goal

pub returns : goal.returns
returns c moment date range = (
  λ e. rw e at (date_of-is moment range),
  date_of-by moment date range,
)
