use Rattle.rs_code.proofs.rs.Rs.is_codeword.Goals as goal

pub returns : goal.returns
returns g c = (λ yes. c.remainder.ensures.code.0 (c.all_zero.ensures.0 yes), λ code. c.all_zero.ensures.1 (c.remainder.ensures.code.1 code))
