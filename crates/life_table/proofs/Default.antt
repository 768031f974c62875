-- The default table keeps the rules.
use Rattle.std.proofs.Common.{[], ◌∷◌, codes, refl, inl, inr, lit≤}
use Rattle.fisb_time.specs.declared.form.TimeForm.TheVariants.{Minute, DayMinute}
use Rattle.life_table.specs.LifeTable.{TextRow, row, radar, default_table}
use Rattle.life_table.specs.Rules.{IsTable}
use Rattle.life_table.proofs.Behind.{AllBehind, AllBehind-nil, AllBehind-push}
use Rattle.life_table.proofs.Ruled.{IsNew, IsNewRadar, table_keeps}

abbrev metar : TextRow
metar = row (codes "METAR") (codes "METAR") 2 7200 Minute

abbrev speci : TextRow
speci = row (codes "SPECI") (codes "METAR") 2 7200 Minute

abbrev taf : TextRow
taf = row (codes "TAF") (codes "TAF") 2 28800 Minute

abbrev amended : TextRow
amended = row (codes "TAF.AMD") (codes "TAF") 2 28800 Minute

abbrev pirep : TextRow
pirep = row (codes "PIREP") (codes "PIREP") 3 10800 Minute

abbrev winds : TextRow
winds = row (codes "WINDS") (codes "WINDS") 3 86400 DayMinute

-- each row behind the rows before it
metar_is : IsNew 600 [] metar
metar_is = record { sound = record { word = refl; kind = refl; words = inl refl; lives = lit≤ tt; within = lit≤ tt }; new = refl; named = inl refl }

speci_is : IsNew 600 (metar ∷ []) speci
speci_is = record { sound = record { word = refl; kind = refl; words = inl refl; lives = lit≤ tt; within = lit≤ tt }; new = refl; named = inr refl }

taf_is : IsNew 600 (metar ∷ speci ∷ []) taf
taf_is = record { sound = record { word = refl; kind = refl; words = inl refl; lives = lit≤ tt; within = lit≤ tt }; new = refl; named = inl refl }

amended_is : IsNew 600 (metar ∷ speci ∷ taf ∷ []) amended
amended_is = record { sound = record { word = refl; kind = refl; words = inl refl; lives = lit≤ tt; within = lit≤ tt }; new = refl; named = inr refl }

pirep_is : IsNew 600 (metar ∷ speci ∷ taf ∷ amended ∷ []) pirep
pirep_is = record { sound = record { word = refl; kind = refl; words = inr refl; lives = lit≤ tt; within = lit≤ tt }; new = refl; named = inl refl }

winds_is : IsNew 600 (metar ∷ speci ∷ taf ∷ amended ∷ pirep ∷ []) winds
winds_is = record { sound = record { word = refl; kind = refl; words = inr refl; lives = lit≤ tt; within = lit≤ tt }; new = refl; named = inl refl }

texts_are : AllBehind (IsNew 600) (metar ∷ speci ∷ taf ∷ amended ∷ pirep ∷ winds ∷ [])
texts_are =
    let one = AllBehind-push (IsNew 600) [] metar (AllBehind-nil (IsNew 600)) metar_is in
    let two = AllBehind-push (IsNew 600) (metar ∷ []) speci one speci_is in
    let three = AllBehind-push (IsNew 600) (metar ∷ speci ∷ []) taf two taf_is in
    let four = AllBehind-push (IsNew 600) (metar ∷ speci ∷ taf ∷ []) amended three amended_is in
    let five = AllBehind-push (IsNew 600) (metar ∷ speci ∷ taf ∷ amended ∷ []) pirep four pirep_is in
    AllBehind-push (IsNew 600) (metar ∷ speci ∷ taf ∷ amended ∷ pirep ∷ []) winds five winds_is

regional : IsNewRadar 600 [] (radar 63 1200 Minute)
regional = record { product = inl refl; lives = lit≤ tt; within = lit≤ tt; new = refl }

conus : IsNewRadar 600 (radar 63 1200 Minute ∷ []) (radar 64 2700 Minute)
conus = record { product = inr refl; lives = lit≤ tt; within = lit≤ tt; new = refl }

radars_are : AllBehind (IsNewRadar 600) (radar 63 1200 Minute ∷ radar 64 2700 Minute ∷ [])
radars_are =
    let one = AllBehind-push (IsNewRadar 600) [] (radar 63 1200 Minute) (AllBehind-nil (IsNewRadar 600)) regional in
    AllBehind-push (IsNewRadar 600) (radar 63 1200 Minute ∷ []) (radar 64 2700 Minute) one conus

pub default_table_keeps_the_rules : IsTable default_table
unfolding default_table
default_table_keeps_the_rules = table_keeps default_table (lit≤ tt) (lit≤ tt) (lit≤ tt) texts_are radars_are
