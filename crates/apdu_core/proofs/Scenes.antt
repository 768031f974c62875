-- APDUs of product 413, computed by the definitions.
use Rattle.std.proofs.Common.{◌≡◌, None, Some, Ok, Err, [], ◌∷◌, refl}
use Rattle.fisb_time.specs.declared.form.TimeForm.TheVariants.{Minute, DayMinute, DaySecond}
use Rattle.apdu_core.specs.declared.fault.ApduFault.TheVariants.{Short, Flagged, BadSegment}
use Rattle.apdu_core.specs.Apdu.{Apdu, apdu_of, apdu_bytes, product_of}

abbrev noon_and_34 : Apdu
noon_and_34 = record {
  product = 413;
  form = Minute;
  time = record { month = 0; day = 0; hours = 12; minutes = 34; seconds = 0 };
  segmentation = None;
  payload = 0x34 ∷ 0x55 ∷ [];
}

abbrev leap_day : Apdu
leap_day = record {
  product = 413;
  form = DayMinute;
  time = record { month = 2; day = 29; hours = 12; minutes = 0; seconds = 0 };
  segmentation = None;
  payload = [];
}

abbrev first_of_two : Apdu
first_of_two = record {
  product = 413;
  form = Minute;
  time = record { month = 0; day = 0; hours = 22; minutes = 13; seconds = 0 };
  segmentation = Some (record { file = 0; count = 2; number = 1 });
  payload = 0x05 ∷ [];
}

abbrev greatest : Apdu
greatest = record {
  product = 2047;
  form = DaySecond;
  time = record { month = 15; day = 31; hours = 31; minutes = 63; seconds = 63 };
  segmentation = Some (record { file = 1023; count = 511; number = 511 });
  payload = [];
}

pub written-noon : apdu_bytes noon_and_34 ≡ 0x06 ∷ 0x74 ∷ 0x32 ∷ 0x20 ∷ 0x34 ∷ 0x55 ∷ []
written-noon = refl

pub read-noon : apdu_of (0x06 ∷ 0x74 ∷ 0x32 ∷ 0x20 ∷ 0x34 ∷ 0x55 ∷ []) ≡ Ok noon_and_34
unfolding apdu_of
read-noon = refl

pub written-leap_day : apdu_bytes leap_day ≡ 0x06 ∷ 0x75 ∷ 0x17 ∷ 0x58 ∷ 0x00 ∷ []
written-leap_day = refl

-- fill bits are not looked at
pub read-leap_day : apdu_of (0x06 ∷ 0x75 ∷ 0x17 ∷ 0x58 ∷ 0x07 ∷ []) ≡ Ok leap_day
unfolding apdu_of
read-leap_day = refl

pub written-segment : apdu_bytes first_of_two ≡ 0x06 ∷ 0x76 ∷ 0x58 ∷ 0xD0 ∷ 0x00 ∷ 0x04 ∷ 0x01 ∷ 0x05 ∷ []
written-segment = refl

pub read-segment : apdu_of (0x06 ∷ 0x76 ∷ 0x58 ∷ 0xD0 ∷ 0x00 ∷ 0x04 ∷ 0x01 ∷ 0x05 ∷ []) ≡ Ok first_of_two
unfolding apdu_of
read-segment = refl

pub written-greatest : apdu_bytes greatest ≡ 0x1F ∷ 0xFF ∷ 0xFF ∷ 0xFF ∷ 0xFF ∷ 0xFF ∷ 0xFF ∷ 0xFF ∷ 0xFE ∷ []
written-greatest = refl

pub read-greatest : apdu_of (0x1F ∷ 0xFF ∷ 0xFF ∷ 0xFF ∷ 0xFF ∷ 0xFF ∷ 0xFF ∷ 0xFF ∷ 0xFF ∷ []) ≡ Ok greatest
unfolding apdu_of
read-greatest = refl

pub read-three_bytes : apdu_of (0x06 ∷ 0x74 ∷ 0x32 ∷ []) ≡ Err Short
unfolding apdu_of
read-three_bytes = refl

pub read-flagged : apdu_of (0x26 ∷ 0x74 ∷ 0x32 ∷ 0x20 ∷ []) ≡ Err Flagged
unfolding apdu_of
read-flagged = refl

-- a flag is told before a header that is cut off
pub read-flagged_and_cut : apdu_of (0x26 ∷ 0x75 ∷ 0x17 ∷ 0x58 ∷ []) ≡ Err Flagged
unfolding apdu_of
read-flagged_and_cut = refl

pub read-cut : apdu_of (0x06 ∷ 0x75 ∷ 0x17 ∷ 0x58 ∷ []) ≡ Err Short
unfolding apdu_of
read-cut = refl

pub read-bad_segment : apdu_of (0x06 ∷ 0x76 ∷ 0x58 ∷ 0xD0 ∷ 0x00 ∷ 0x04 ∷ 0x03 ∷ []) ≡ Err BadSegment
unfolding apdu_of
read-bad_segment = refl

pub product-of_three_bytes : product_of (0x06 ∷ 0x74 ∷ 0x32 ∷ []) ≡ 0
product-of_three_bytes = refl

-- the product is told of a flagged body too
pub product-of_flagged : product_of (0x26 ∷ 0x74 ∷ 0x32 ∷ 0x20 ∷ []) ≡ 413
product-of_flagged = refl
