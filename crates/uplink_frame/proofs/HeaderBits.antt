-- The bits of a header: the fields that its bytes spell, and that they read back.
use Rattle.std.proofs.Common.{◌≡◌, ℕ, ◌+◌, ◌-◌, ◌*◌, ◌/◌, ◌%◌, ◌^◌, ◌<◌, ◌≤◌, ◌==◌, List, [], ◌∷◌, length, take, get_or, refl, sym, ap, ◌∙◌, arith}
use Rattle.std.specs.Int.{w64, bytes_high_first, from_be_bytes, to_be_bytes}
use Rattle.std.proofs.lemmas.List.{length-take, length-take-le}
use Rattle.std.proofs.lemmas.Nat.{from_be_bytes-to_be_bytes_8}
use Rattle.bit_fields.specs.Bits.{bit, number_of}
use Rattle.bit_fields.specs.BitsBack.{bit_below, bit_back}
use Rattle.list_members.specs.Places.{take-by_place}
use Rattle.uplink_frame.specs.declared.header.UplinkHeader.{UplinkHeader}
use Rattle.uplink_frame.specs.UplinkFrame.{FitsHeader, header_bytes, header_in}

-- eight bytes as one number
number_of-eight : (a b c d e f g h : ℕ) → from_be_bytes w64 (a ∷ b ∷ c ∷ d ∷ e ∷ f ∷ g ∷ h ∷ []) ≡ number_of (a ∷ b ∷ c ∷ d ∷ e ∷ f ∷ g ∷ h ∷ [])
number_of-eight a b c d e f g h = omega arith

-- the fields of a header, side by side
abbrev all_bits : ℕ → ℕ → ℕ → ℕ → ℕ → ℕ → ℕ → ℕ
all_bits lat lon p u a slot site = (((((((lat * 2 ^ 24 + lon) * 2 + p) * 2 + u) * 2) * 2 + a) * 32 + slot) * 16 + site) * 16

-- each of them, in these bits
pub record HasFields (bits lat lon p u a slot site : ℕ) : Type 0 where
  pub latitude : bits / 2 ^ 41 % 2 ^ 23 ≡ lat
  pub longitude : bits / 2 ^ 17 % 2 ^ 24 ≡ lon
  pub position : bits / 2 ^ 16 % 2 ≡ p
  pub utc : bits / 2 ^ 15 % 2 ≡ u
  pub application : bits / 2 ^ 13 % 2 ≡ a
  pub slot_is : bits / 2 ^ 8 % 32 ≡ slot
  pub site_is : bits / 2 ^ 4 % 16 ≡ site

has_fields :
    (lat lon p u a slot site : ℕ) → lat < 2 ^ 23 → lon < 2 ^ 24 → p < 2 → u < 2 → a < 2 → slot < 32 → site < 16 →
    HasFields (all_bits lat lon p u a slot site) lat lon p u a slot site
has_fields lat lon p u a slot site lat_fits lon_fits p_fits u_fits a_fits slot_fits site_fits = record {
  latitude = omega arith;
  longitude = omega arith;
  position = omega arith;
  utc = omega arith;
  application = omega arith;
  slot_is = omega arith;
  site_is = omega arith;
}

-- the header whose fields are these bits
pub header_of_bits : ℕ → UplinkHeader
header_of_bits n = record {
  lat = n / 2 ^ 41 % 2 ^ 23;
  lon = n / 2 ^ 17 % 2 ^ 24;
  position_valid = n / 2 ^ 16 % 2 == 1;
  utc = n / 2 ^ 15 % 2 == 1;
  app_valid = n / 2 ^ 13 % 2 == 1;
  slot = n / 2 ^ 8 % 32;
  site = n / 2 ^ 4 % 16;
}

-- the fields at the front of so many bytes
fields_with : ℕ → List ℕ → UplinkHeader
fields_with size front = record {
  lat = number_of front / 2 ^ (8 * size - 0 - 23) % 2 ^ 23;
  lon = number_of front / 2 ^ (8 * size - 23 - 24) % 2 ^ 24;
  position_valid = number_of front / 2 ^ (8 * size - 47 - 1) % 2 ^ 1 == 1;
  utc = number_of front / 2 ^ (8 * size - 48 - 1) % 2 ^ 1 == 1;
  app_valid = number_of front / 2 ^ (8 * size - 50 - 1) % 2 ^ 1 == 1;
  slot = number_of front / 2 ^ (8 * size - 51 - 5) % 2 ^ 5;
  site = number_of front / 2 ^ (8 * size - 56 - 4) % 2 ^ 4;
}

pub header_in-bits :
    (payload : List ℕ) → 8 ≤ length payload → header_in payload ≡ header_of_bits (number_of (take 8 payload))
unfolding header_in header_of_bits fields_with
header_in-bits payload enough = ap (λ size. fields_with size (take 8 payload)) (length-take-le 8 payload enough)

-- the bits are read as one number
pub bits_read :
    (payload : List ℕ) (bits : ℕ) → 8 ≤ length payload →
    bits ≡ from_be_bytes w64 (get_or payload 0 0 ∷ get_or payload 1 0 ∷ get_or payload 2 0 ∷ get_or payload 3 0 ∷ get_or payload 4 0 ∷ get_or payload 5 0 ∷ get_or payload 6 0 ∷ get_or payload 7 0 ∷ []) →
    bits ≡ number_of (take 8 payload)
bits_read payload bits enough e = e ∙ number_of-eight _ _ _ _ _ _ _ _ ∙ ap number_of (sym (take-by_place 8 payload enough))

-- a header that is made of fields of the bits
pub read_is :
    (n lat lon p u a slot site : ℕ) → lat ≡ n / 2 ^ 41 % 2 ^ 23 → lon ≡ n / 2 ^ 17 % 2 ^ 24 → p ≡ n / 2 ^ 16 % 2 →
    u ≡ n / 2 ^ 15 % 2 → a ≡ n / 2 ^ 13 % 2 → slot ≡ n / 2 ^ 8 % 32 → site ≡ n / 2 ^ 4 % 16 →
    record {
      lat = lat;
      lon = lon;
      position_valid = p == 1;
      utc = u == 1;
      app_valid = a == 1;
      slot = slot;
      site = site;
    } ≡ header_of_bits n
unfolding header_of_bits
read_is n lat lon p u a slot site q r s t v w x = rw (q, r, s, t, v, w, x) refl

-- the fields of the definition, side by side
joined_is :
    (h : UplinkHeader) → header_bytes h ≡ to_be_bytes w64
    (all_bits h.lat h.lon (bit h.position_valid) (bit h.utc) (bit h.app_valid) h.slot h.site)
joined_is h = ap (bytes_high_first 8) (omega arith)

-- fields that fit are found again in their bits
fields_back :
    (h : UplinkHeader) (bits : ℕ) →
    HasFields bits h.lat h.lon (bit h.position_valid) (bit h.utc) (bit h.app_valid) h.slot h.site →
    header_of_bits bits ≡ h
unfolding header_of_bits
fields_back h bits has =
    let p = bit_back h.position_valid _ has.position in
    let u = bit_back h.utc _ has.utc in
    let a = bit_back h.app_valid _ has.application in
    rw (has.latitude, has.longitude, p, u, a, has.slot_is, has.site_is) refl

-- what is written reads back
pub header_in-written :
    (h : UplinkHeader) (payload : List ℕ) → FitsHeader h → take 8 payload ≡ header_bytes h → header_in payload ≡ h
header_in-written h payload fits front =
    let enough : 8 ≤ length payload = omega (arith, ap length front, length-take 8 payload) in
    let p = bit_below h.position_valid in
    let u = bit_below h.utc in
    let a = bit_below h.app_valid in
    let bits = all_bits h.lat h.lon (bit h.position_valid) (bit h.utc) (bit h.app_valid) h.slot h.site in
    let small : bits < 2 ^ 64 = omega (arith, fits.lat, fits.lon, fits.slot, fits.site) in
    let number : number_of (take 8 payload) ≡ bits =
    ap number_of (front ∙ joined_is h) ∙ sym (number_of-eight _ _ _ _ _ _ _ _) ∙ from_be_bytes-to_be_bytes_8 bits small
    in
    header_in-bits payload enough ∙ ap header_of_bits number
    ∙ fields_back h bits
    (has_fields h.lat h.lon (bit h.position_valid) (bit h.utc) (bit h.app_valid) h.slot h.site
    fits.lat fits.lon p u a fits.slot fits.site)

-- eight bytes
pub length-header_bytes : (h : UplinkHeader) → length (header_bytes h) ≡ 8
length-header_bytes h = refl
