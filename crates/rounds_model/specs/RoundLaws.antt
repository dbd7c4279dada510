-- A round of phases whose acts lead below leads on: it leaves a world in which none of its acts is enabled, and comes below any other.
use Rattle.std.specs.Prelude.{◌≡◌, ◌⊎◌, ℕ, List, [], ◌∷◌, Bool, true, false, not, ◌&&◌, refl}
use Rattle.std.proofs.Common.{ap, sym, subst, ◌∙◌, inl, inr}
use Rattle.std.proofs.lemmas.Bool.{and_parts, not-true}
use Rattle.rounds_model.specs.Tower.{Below, Leads}
use Rattle.rounds_model.specs.TowerLaws.{Below-trans}
use Rattle.rounds_model.specs.Rounds.{made, through, none_of, none_in, Acts}

module _ {W A : Type 0} (P : W → Type 0) (can : W → A → Bool) (done : A → W → W) (ms : List (W → ℕ)) (acts_lead : Acts P can done ms) where
  made_keeps : (acts : List A) (w : W) → P w → P (made done acts w)
  made_keeps [] w p = p
  made_keeps (a ∷ acts) w p = made_keeps acts (done a w) (acts_lead.keeps a w p)

  pub through_keeps : (ps : List (W → List A)) (w : W) → P w → P (through done ps w)
  through_keeps [] w p = p
  through_keeps (q ∷ ps) w p = through_keeps ps (made done (q w) w) (made_keeps (q w) w p)

  -- nothing was enabled and nothing changed, or it came below
  abbrev Goes : Bool → W → W → Type 0
  Goes none v w = ((none ≡ true) × (v ≡ w)) ⊎ Below ms v w

  then : (b c : Bool) (u v w : W) → Goes b v w → (v ≡ w → Goes c u w) → (u ≡ v) ⊎ Below ms u v → Goes (b && c) u w
  then true c u v w (inl s) h g = h s.1
  then false c u v w (inl s) h g = cc s.0
  then b c u v w (inr l) h (inl same) = inr (subst (λ x. Below ms x w) (sym same) l)
  then b c u v w (inr l) h (inr m) = inr (Below-trans ms w v u l m)

  unchanged : (b : Bool) (v w : W) → Goes b v w → (v ≡ w) ⊎ Below ms v w
  unchanged b v w (inl s) = inl s.1
  unchanged b v w (inr l) = inr l

  one_goes : (a : A) (w : W) → P w → Goes (not (can w a)) (done a w) w
  one_goes a w p = by (acts_lead.goes a w p)
    where
      by : ((can w a ≡ false) × (done a w ≡ w)) ⊎ ((can w a ≡ true) × Below ms (done a w) w) → Goes (not (can w a)) (done a w) w
      by (inl n) = inl (ap not n.0, n.1)
      by (inr l) = inr l.1

  made_goes : (acts : List A) (w : W) → P w → Goes (none_of can acts w) (made done acts w) w
  made_goes [] w p = inl (refl, refl)
  made_goes (a ∷ acts) w p =
      let rest = made_goes acts (done a w) (acts_lead.keeps a w p) in
      then (not (can w a)) (none_of can acts w) (made done acts (done a w)) (done a w) w (one_goes a w p)
      (λ same. subst (λ x. Goes (none_of can acts x) (made done acts (done a w)) x) same rest)
      (unchanged (none_of can acts (done a w)) (made done acts (done a w)) (done a w) rest)

  through_goes : (ps : List (W → List A)) (w : W) → P w → Goes (none_in can ps w) (through done ps w) w
  through_goes [] w p = inl (refl, refl)
  through_goes (q ∷ ps) w p =
      let v = made done (q w) w in
      let rest = through_goes ps v (made_keeps (q w) w p) in
      then (none_of can (q w) w) (none_in can ps w) (through done ps v) v w (made_goes (q w) w p)
      (λ same. subst (λ x. Goes (none_in can ps x) (through done ps v) x) same rest)
      (unchanged (none_in can ps v) (through done ps v) v rest)

  idle : (a : A) (w : W) → P w → not (can w a) ≡ true → done a w ≡ w
  idle a w p e = by (acts_lead.goes a w p)
    where
      by : ((can w a ≡ false) × (done a w ≡ w)) ⊎ ((can w a ≡ true) × Below ms (done a w) w) → done a w ≡ w
      by (inl n) = n.1
      by (inr l) = let no_way : true ≡ false = sym l.0 ∙ not-true (can w a) e in cc

  made_idle : (acts : List A) (w : W) → P w → none_of can acts w ≡ true → made done acts w ≡ w
  made_idle [] w p e = refl
  made_idle (a ∷ acts) w p e =
      let both = and_parts (not (can w a)) (none_of can acts w) e in
      ap (made done acts) (idle a w p both.0) ∙ made_idle acts w p both.1

  through_idle : (ps : List (W → List A)) (w : W) → P w → none_in can ps w ≡ true → through done ps w ≡ w
  through_idle [] w p e = refl
  through_idle (q ∷ ps) w p e =
      let both = and_parts (none_of can (q w) w) (none_in can ps w) e in
      ap (through done ps) (made_idle (q w) w p both.0) ∙ through_idle ps w p both.1

  -- the phases may be those of the world at the beginning of the round
  pub round_leads : (phases : W → List (W → List A)) → Leads P (λ w. none_in can (phases w) w) ms (λ w. through done (phases w) w)
  round_leads phases = record {
    keeps = λ w p. through_keeps (phases w) w p;
    stays = λ w p s. through_idle (phases w) w p s;
    goes = λ w p. by w (through_goes (phases w) w p);
  }
    where
      by : (w : W) → Goes (none_in can (phases w) w) (through done (phases w) w) w
          → (none_in can (phases (through done (phases w) w)) (through done (phases w) w) ≡ true) ⊎ Below ms (through done (phases w) w) w
      by w (inl s) = inl (ap (λ x. none_in can (phases x) x) s.1 ∙ s.0)
      by w (inr l) = inr l
