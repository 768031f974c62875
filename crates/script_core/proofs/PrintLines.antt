-- The lines of a script's text as they are written: twelve pieces, and then the rest.
use Rattle.std.proofs.Common.{◌≡◌, ℕ, List, [], ◌∷◌, ◌++◌, length, map, get_or, codes, decimal, refl, arith, ap, sym, ◌∙◌, append_assoc}
use Rattle.refusal_core.specs.Refusal.{line_of_words}

-- a line that tells of a frame that was sent, with what stands on the air
abbrev pub sent_air_pieces : ℕ → ℕ → ℕ → ℕ → ℕ → List ℕ → List ℕ
sent_air_pieces index moment slot bodies taken digits =
    (codes "sent " ++ (decimal index ++ (codes " " ++ (decimal moment ++ (codes " " ++ (decimal slot ++ (codes " " ++ (decimal bodies ++ (codes " " ++ (decimal taken ++ (codes " " ++ digits))))))))))) ++ codes "\n"

pub sent_air_line : (index slot bodies taken : ℕ) {moment moment' : ℕ} {digits digits' : List ℕ} → moment ≡ moment' → digits ≡ digits'
    → sent_air_pieces index moment slot bodies taken digits
    ≡ line_of_words (codes "sent" ∷ decimal index ∷ decimal moment' ∷ decimal slot ∷ decimal bodies ∷ decimal taken ∷ digits' ∷ [])
sent_air_line index slot bodies taken {moment' = moment'} {digits = digits} p q =
    ap (λ (m : ℕ). sent_air_pieces index m slot bodies taken digits) p ∙ ap (λ (t : List ℕ). sent_air_pieces index moment' slot bodies taken t) q ∙ simp append_assoc

-- a line that tells of a reception
abbrev pub heard_pieces : ℕ → ℕ → ℕ → ℕ → ℕ → ℕ → ℕ → ℕ → ℕ → List ℕ
heard_pieces moment slot site first second third fourth fifth sixth =
    (codes "heard " ++ (decimal moment ++ (codes " " ++ (decimal slot ++ (codes " " ++ (decimal site ++ (codes " " ++ (decimal first ++ (codes " " ++ (decimal second ++ (codes " " ++ decimal third)))))))))))
    ++ (codes " " ++ (decimal fourth ++ (codes " " ++ (decimal fifth ++ (codes " " ++ (decimal sixth ++ codes "\n"))))))

six_listed : (counts : List ℕ) → length counts ≡ 6
    → counts ≡ get_or counts 0 0 ∷ get_or counts 1 0 ∷ get_or counts 2 0 ∷ get_or counts 3 0 ∷ get_or counts 4 0 ∷ get_or counts 5 0 ∷ []
six_listed (a ∷ b ∷ c ∷ d ∷ e ∷ f ∷ []) p = refl
six_listed (a ∷ b ∷ c ∷ d ∷ e ∷ f ∷ g ∷ more) p = absurd (omega (arith, p))
six_listed (a ∷ b ∷ c ∷ d ∷ e ∷ []) p = absurd (omega (arith, p))
six_listed (a ∷ b ∷ c ∷ d ∷ []) p = absurd (omega (arith, p))
six_listed (a ∷ b ∷ c ∷ []) p = absurd (omega (arith, p))
six_listed (a ∷ b ∷ []) p = absurd (omega (arith, p))
six_listed (a ∷ []) p = absurd (omega (arith, p))
six_listed [] p = absurd (omega (arith, p))

pub heard_line : (slot site : ℕ) {moment moment' : ℕ} (counts : List ℕ) → moment ≡ moment' → length counts ≡ 6
    → heard_pieces moment slot site (get_or counts 0 0) (get_or counts 1 0) (get_or counts 2 0) (get_or counts 3 0) (get_or counts 4 0) (get_or counts 5 0)
    ≡ line_of_words (codes "heard" ∷ decimal moment' ∷ decimal slot ∷ decimal site ∷ map decimal counts)
heard_line slot site {moment' = moment'} counts p six =
    ap (λ (m : ℕ). heard_pieces m slot site (get_or counts 0 0) (get_or counts 1 0) (get_or counts 2 0) (get_or counts 3 0) (get_or counts 4 0) (get_or counts 5 0)) p
    ∙ (simp append_assoc)
    ∙ ap (λ (cs : List ℕ). line_of_words (codes "heard" ∷ decimal moment' ∷ decimal slot ∷ decimal site ∷ map decimal cs)) (sym (six_listed counts six))

-- a line of a block
abbrev pub radar_pieces : ℕ → ℕ → List ℕ → ℕ → ℕ → List ℕ → List ℕ
radar_pieces product scale hemisphere number version digits =
    (codes "radar " ++ (decimal product ++ (codes " " ++ (decimal scale ++ (codes " " ++ (hemisphere ++ (codes " " ++ (decimal number ++ (codes " " ++ (decimal version ++ (codes " " ++ digits))))))))))) ++ codes "\n"

pub radar_line : (product scale number : ℕ) {hemisphere hemisphere' : List ℕ} {version version' : ℕ} {digits digits' : List ℕ} → hemisphere ≡ hemisphere' → version ≡ version' → digits ≡ digits'
    → radar_pieces product scale hemisphere number version digits
    ≡ line_of_words (codes "radar" ∷ decimal product ∷ decimal scale ∷ hemisphere' ∷ decimal number ∷ decimal version' ∷ digits' ∷ [])
radar_line product scale number {hemisphere' = hemisphere'} {version = version} {version' = version'} {digits = digits} h v d =
    ap (λ (t : List ℕ). radar_pieces product scale t number version digits) h ∙ ap (λ (m : ℕ). radar_pieces product scale hemisphere' number m digits) v
    ∙ ap (λ (t : List ℕ). radar_pieces product scale hemisphere' number version' t) d ∙ simp append_assoc
