-- Laws: Acts that are made again and again until they can't be made.
use Rattle.std.specs.Prelude.{◌≡◌, ℕ, zero, suc, ◌+◌, ◌-◌, ◌<◌, List, [], ◌∷◌, ◌++◌, replicate, Bool, false, refl}
use Rattle.std.proofs.Common.{ap, sym, ◌∙◌, arith}
use Rattle.rounds_model.specs.Rounds.{made, through}
use Rattle.world_rounds_laws.specs.Repeats.{IsRepeated}

module _ {W A : Type 0} (done : A → W → W) where
  pub made-append : (xs ys : List A) (w : W) → made done (xs ++ ys) w ≡ made done ys (made done xs w)
  made-append [] ys w = refl
  made-append (x ∷ xs) ys w = made-append xs ys (done x w)

  pub through-append : (ps qs : List (W → List A)) (w : W) → through done (ps ++ qs) w ≡ through done qs (through done ps w)
  through-append [] qs w = refl
  through-append (p ∷ ps) qs w = through-append ps qs (made done (p w) w)

  -- one more time
  pub once_more : (n : ℕ) (a : A) (w : W) → made done (replicate (suc n) a) w ≡ done a (made done (replicate n a) w)
  once_more zero a w = refl
  once_more (suc n) a w = once_more n a (done a w)

module _ {W A : Type 0} (can : W → A → Bool) (done : A → W → W) (idle : (a : A) (w : W) → can w a ≡ false → done a w ≡ w) where
  -- an act that can't be made is tried in vain, however often
  pub tried_in_vain : (n : ℕ) (a : A) (w : W) → can w a ≡ false → made done (replicate n a) w ≡ w
  tried_in_vain zero a w off = refl
  tried_in_vain (suc n) a w off = ap (made done (replicate n a)) (idle a w off) ∙ tried_in_vain n a w off

module _ {W A : Type 0} (can : W → A → Bool) (done : A → W → W) (idle : (a : A) (w : W) → can w a ≡ false → done a w ≡ w) (count : W → ℕ) (a : A) where
  pub not_yet : (w : W) → IsRepeated done count a w w
  not_yet w = record { times = 0; is = refl; left = omega arith }

  -- once more, which leaves less to do
  pub again : (first now : W) → IsRepeated done count a first now → count (done a now) < count now → IsRepeated done count a first (done a now)
  again first now r less = record { times = suc r.times; is = ap (done a) r.is ∙ sym (once_more done r.times a first); left = omega (arith, r.left, less) }

  replicate_sum : (n m : ℕ) → replicate (n + m) a ≡ replicate n a ++ replicate m a
  replicate_sum zero m = let e : zero + m ≡ m = omega arith in ap (λ k. replicate k a) e
  replicate_sum (suc n) m = let e : suc n + m ≡ suc (n + m) = omega arith in ap (λ k. replicate k a) e ∙ ap (λ (xs : List A). a ∷ xs) (replicate_sum n m)

  -- where it can't be made any more, it was tried as often as there was something for it
  pub repeated : (first now : W) → IsRepeated done count a first now → can now a ≡ false → made done (replicate (count first) a) first ≡ now
  repeated first now r off =
      let rest : count first ≡ r.times + (count first - r.times) = omega (arith, r.left) in
      ap (λ n. made done (replicate n a) first) rest
      ∙ (ap (λ (xs : List A). made done xs first) (replicate_sum r.times (count first - r.times))
      ∙ (made-append done (replicate r.times a) (replicate (count first - r.times) a) first
      ∙ (ap (made done (replicate (count first - r.times) a)) (sym r.is) ∙ tried_in_vain can done idle (count first - r.times) a now off)))
