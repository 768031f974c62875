use Rattle.fisb_time.proofs.NamingLemmas.{named_moment-of, Names-of}
use Rattle.fisb_time.proofs.laws.named_is_greatest.Goals as goal

pub returns : goal.returns
returns c form fields received moment =
    (Names-of form fields received moment, named_moment-of form fields received moment)
