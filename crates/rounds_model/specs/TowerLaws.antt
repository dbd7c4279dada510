-- A tower ends where nothing is left to do, and so does any number of steps that comes to an end at all: both end at the same.
use Rattle.std.specs.Prelude.{◌≡◌, ◌⊎◌, ℕ, zero, suc, ◌+◌, ◌≤◌, List, [], ◌∷◌, Bool, true, refl}
use Rattle.std.proofs.Common.{ap, sym, ◌∙◌, arith, inl, inr}
use Rattle.rounds_model.specs.Tower.{often, raised, tower, Same, Below, Leads}

module _ {W : Type 0} where
  pub Same-refl : (ms : List (W → ℕ)) (w : W) → Same ms w w
  Same-refl [] w = tt
  Same-refl (m ∷ ms) w = (refl, Same-refl ms w)

  pub Same-trans : (ms : List (W → ℕ)) (u v w : W) → Same ms v u → Same ms w v → Same ms w u
  Same-trans [] u v w a b = tt
  Same-trans (m ∷ ms) u v w a b = (b.0 ∙ a.0, Same-trans ms u v w a.1 b.1)

  pub Below_same : (ms : List (W → ℕ)) (u v w : W) → Below ms v u → Same ms w v → Below ms w u
  Below_same [] u v w a b = a
  Below_same (m ∷ ms) u v w (inl a) b = inl (Below_same ms u v w a b.1)
  Below_same (m ∷ ms) u v w (inr a) b = inr (Same-trans ms u v w a.0 b.1, omega (arith, a.1, b.0))

  pub same_Below : (ms : List (W → ℕ)) (u v w : W) → Same ms v u → Below ms w v → Below ms w u
  same_Below [] u v w a b = b
  same_Below (m ∷ ms) u v w a (inl b) = inl (same_Below ms u v w a.1 b)
  same_Below (m ∷ ms) u v w a (inr b) = inr (Same-trans ms u v w a.1 b.0, omega (arith, a.0, b.1))

  pub Below-trans : (ms : List (W → ℕ)) (u v w : W) → Below ms v u → Below ms w v → Below ms w u
  Below-trans [] u v w a b = a
  Below-trans (m ∷ ms) u v w (inl a) (inl b) = inl (Below-trans ms u v w a b)
  Below-trans (m ∷ ms) u v w (inl a) (inr b) = inl (Below_same ms u v w a b.0)
  Below-trans (m ∷ ms) u v w (inr a) (inl b) = inl (same_Below ms u v w a.0 b)
  Below-trans (m ∷ ms) u v w (inr a) (inr b) = inr (Same-trans ms u v w a.0 b.0, omega (arith, a.1, b.1))

module _ {W : Type 0} (P : W → Type 0) (stuck : W → Bool) where
  -- ---- many steps

  pub often_keeps : (ms : List (W → ℕ)) (f : W → W) → Leads P stuck ms f → (n : ℕ) (w : W) → P w → P (often n f w)
  unfolding often
  often_keeps ms f l zero w p = p
  often_keeps ms f l (suc n) w p = l.keeps (often n f w) (often_keeps ms f l n w p)

  often_stays : (ms : List (W → ℕ)) (f : W → W) → Leads P stuck ms f → (n : ℕ) (w : W) → P w → stuck w ≡ true → often n f w ≡ w
  unfolding often
  often_stays ms f l zero w p s = refl
  often_stays ms f l (suc n) w p s = ap f (often_stays ms f l n w p s) ∙ l.stays w p s

  -- after n steps: stuck, or below by the later measures, or these are the same and the first one is less by n
  abbrev After : (W → ℕ) → List (W → ℕ) → ℕ → W → W → Type 0
  After m ms n v w = (stuck v ≡ true) ⊎ (Below ms v w ⊎ (Same ms v w × (m v + n ≤ m w)))

  one_more : (m : W → ℕ) (ms : List (W → ℕ)) (f : W → W) → Leads P stuck (m ∷ ms) f → (n : ℕ) (v w : W) → P v → After m ms n v w → After m ms (suc n) (f v) w
  one_more m ms f l n v w p (inl s) = inl (ap stuck (l.stays v p s) ∙ s)
  one_more m ms f l n v w p (inr a) = by (l.goes v p) a
    where
      by : (stuck (f v) ≡ true) ⊎ Below (m ∷ ms) (f v) v → Below ms v w ⊎ (Same ms v w × (m v + n ≤ m w)) → After m ms (suc n) (f v) w
      by (inl s) a = inl s
      by (inr (inl b)) (inl a) = inr (inl (Below-trans ms w v (f v) a b))
      by (inr (inl b)) (inr a) = inr (inl (same_Below ms w v (f v) a.0 b))
      by (inr (inr b)) (inl a) = inr (inl (Below_same ms w v (f v) a b.0))
      by (inr (inr b)) (inr a) = inr (inr (Same-trans ms w v (f v) a.0 b.0, omega (arith, a.1, b.1)))

  often_goes : (m : W → ℕ) (ms : List (W → ℕ)) (f : W → W) → Leads P stuck (m ∷ ms) f → (n : ℕ) (w : W) → P w → After m ms n (often n f w) w
  unfolding often
  often_goes m ms f l zero w p = inr (inr (Same-refl ms w, omega arith))
  often_goes m ms f l (suc n) w p = one_more m ms f l n (often n f w) w (often_keeps (m ∷ ms) f l n w p) (often_goes m ms f l n w p)

  last_one : (m : W → ℕ) (ms : List (W → ℕ)) (v w : W) → After m ms (suc (m w)) v w → (stuck v ≡ true) ⊎ Below ms v w
  last_one m ms v w (inl s) = inl s
  last_one m ms v w (inr (inl b)) = inr b
  last_one m ms v w (inr (inr a)) = absurd (omega (arith, a.1))

  raised_leads : (m : W → ℕ) (ms : List (W → ℕ)) (f : W → W) → Leads P stuck (m ∷ ms) f → Leads P stuck ms (raised f m)
  raised_leads m ms f l = record {
    keeps = λ w p. often_keeps (m ∷ ms) f l (suc (m w)) w p;
    stays = λ w p s. often_stays (m ∷ ms) f l (suc (m w)) w p s;
    goes = λ w p. last_one m ms (raised f m w) w (often_goes m ms f l (suc (m w)) w p);
  }

  -- ---- the tower

  stuck_by : (f : W → W) (w : W) → (stuck (f w) ≡ true) ⊎ Below [] (f w) w → stuck (f w) ≡ true
  stuck_by f w (inl s) = s
  stuck_by f w (inr b) = absurd b

  pub tower_is_stuck : (ms : List (W → ℕ)) (f : W → W) → Leads P stuck ms f → (w : W) → P w → stuck (tower f ms w) ≡ true
  tower_is_stuck [] f l w p = stuck_by f w (l.goes w p)
  tower_is_stuck (m ∷ ms) f l w p = tower_is_stuck ms (raised f m) (raised_leads m ms f l) w p

  pub tower_keeps : (ms : List (W → ℕ)) (f : W → W) → Leads P stuck ms f → (w : W) → P w → P (tower f ms w)
  tower_keeps [] f l w p = l.keeps w p
  tower_keeps (m ∷ ms) f l w p = tower_keeps ms (raised f m) (raised_leads m ms f l) w p

  -- ---- a tower is a number of steps

  often-plus : (f : W → W) (m n : ℕ) (w : W) → often m f (often n f w) ≡ often (m + n) f w
  unfolding often
  often-plus f zero n w = let e : n ≡ 0 + n = omega arith in ap (λ k. often k f w) e
  often-plus f (suc m) n w = let e : suc (m + n) ≡ suc m + n = omega arith in ap f (often-plus f m n w) ∙ ap (λ k. often k f w) e

  abbrev pub MakesSteps : (W → W) → (W → W) → Type 0
  MakesSteps f g = (w : W) → (n : ℕ) × (g w ≡ often n f w)

  often_makes : (f g : W → W) → MakesSteps f g → (k : ℕ) (w : W) → (n : ℕ) × (often k g w ≡ often n f w)
  unfolding often
  often_makes f g s zero w = (0, refl)
  often_makes f g s (suc k) w =
      let before = often_makes f g s k w in
      let one = s (often k g w) in
      (one.0 + before.0, one.1 ∙ (ap (often one.0 f) before.1 ∙ often-plus f one.0 before.0 w))

  tower_of_steps : (f : W → W) (ms : List (W → ℕ)) (g : W → W) → MakesSteps f g → MakesSteps f (tower g ms)
  tower_of_steps f [] g s = s
  tower_of_steps f (m ∷ ms) g s = tower_of_steps f ms (raised g m) (λ w. often_makes f g s (suc (m w)) w)

  one_step : (f : W → W) → MakesSteps f f
  unfolding often
  one_step f w = (1, refl)

  pub tower_makes : (f : W → W) (ms : List (W → ℕ)) → MakesSteps f (tower f ms)
  tower_makes f ms = tower_of_steps f ms f (one_step f)

  -- ---- both ends are one

  both_stuck : (ms : List (W → ℕ)) (f : W → W) → Leads P stuck ms f → (m n : ℕ) (w : W) → P w → stuck (often m f w) ≡ true →
      stuck (often n f w) ≡ true → often m f w ≡ often n f w
  both_stuck ms f l m n w p s t =
      let e : n + m ≡ m + n = omega arith in
      sym (often_stays ms f l n (often m f w) (often_keeps ms f l m w p) s)
      ∙ (often-plus f n m w ∙ (ap (λ i. often i f w) e ∙ (sym (often-plus f m n w) ∙ often_stays ms f l m (often n f w) (often_keeps ms f l n w p) t)))

  -- However many steps it takes until it is stuck, it is then where the tower ends.
  pub steps_end_at_the_tower : (ms : List (W → ℕ)) (f : W → W) → Leads P stuck ms f → (n : ℕ) (w : W) → P w → stuck (often n f w) ≡ true →
      often n f w ≡ tower f ms w
  steps_end_at_the_tower ms f l n w p s =
      let last = tower_makes f ms w in
      both_stuck ms f l n last.0 w p s (ap stuck (sym last.1) ∙ tower_is_stuck ms f l w p) ∙ sym last.1
