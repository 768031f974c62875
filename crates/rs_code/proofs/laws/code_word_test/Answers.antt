use Rattle.rs_code.proofs.Functions as Functions
use Rattle.rs_code.proofs.laws.code_word_test.Goals as goal

pub returns : goal.returns
returns c = Functions.code_word_test
