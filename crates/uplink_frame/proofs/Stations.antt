-- Two stations are the same where each field is.
use Rattle.std.proofs.Common.{◌≡◌, ◌↔◌, Bool, true, false, IsTrue, refl, subst}
use Rattle.std.specs.Bool.{Decides}
use Rattle.std.proofs.lemmas.Bool.Decides.{Decides-and, Decides-eqb}
use Rattle.uplink_frame.specs.declared.station.StationId.{StationId}
use Rattle.uplink_frame.specs.Station.{same_flag, same_station}

flag_of : (a b : Bool) → same_flag a b ≡ true → a ≡ b
flag_of true true e = refl
flag_of true false e = absurd (cc)
flag_of false true e = absurd (cc)
flag_of false false e = refl

flag_is : (a : Bool) → same_flag a a ≡ true
flag_is true = refl
flag_is false = refl

decides_flag : (a b : Bool) → Decides (same_flag a b) (a ≡ b)
decides_flag a b = (flag_of a b, λ e. subst (λ (x : Bool). same_flag a x ≡ true) e (flag_is a))

abbrev AreSame : StationId → StationId → Type 0
AreSame a b = (((a.lat ≡ b.lat) × (a.lon ≡ b.lon)) × (a.position_valid ≡ b.position_valid)) × (a.site ≡ b.site)

decides_all : (a b : StationId) → Decides (same_station a b) (AreSame a b)
decides_all a b =
    Decides-and _ _ (Decides-and _ _ (Decides-and _ _ (Decides-eqb a.lat b.lat) (Decides-eqb a.lon b.lon)) (decides_flag a.position_valid b.position_valid)) (Decides-eqb a.site b.site)

pub same_station-right : (a b : StationId) → IsTrue (same_station a b) ↔ (a ≡ b)
same_station-right a b = (
  λ e. let four = (decides_all a b).0 e in rw (four.0.0.0, four.0.0.1, four.0.1, four.1) refl,
  λ e. subst (λ (x : StationId). IsTrue (same_station a x)) e ((decides_all a a).1 (((refl, refl), refl), refl)),
)
