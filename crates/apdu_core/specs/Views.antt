-- What the types of the code stand for.
use Rattle.std.specs.Prelude.{◌≡◌, ℕ, ◌*◌, List, length, Result, Ok, Err}
use Rattle.bit_fields.specs.Bits.{number_of}
use Rattle.apdu_core.specs.declared.bits.Bits.{Bits}
use Rattle.apdu_core.specs.declared.apdu.Apdu.{Apdu as Read}
use Rattle.apdu_core.specs.declared.fault.ApduFault.{ApduFault}
use Rattle.apdu_core.specs.Apdu.{Apdu}

abbrev pub apdu_view : Read → Apdu
apdu_view a = record {
  product = a.product;
  form = a.form;
  time = a.time;
  segmentation = a.seg;
  payload = a.payload.now;
}

-- the answer of a reader
abbrev pub answer_view : Result Read ApduFault → Result Apdu ApduFault
answer_view (Ok a) = Ok (apdu_view a)
answer_view (Err fault) = Err fault

-- the bits are those of these bytes
pub record AreBitsOf (bytes : List ℕ) (bits : Bits) : Type 0 where
  pub number : bits.number ≡ number_of bytes
  pub width : bits.width ≡ 8 * length bytes
