-- Lanes that are told at once are told as one map.
use Rattle.std.specs.Prelude.{◌≡◌, ◌||◌, ℕ, suc, ◌+◌, ◌<◌, length, take, get_or, List, [], ◌∷◌, ◌++◌, Bool, true, false, Option, None, Some, Result}
use Rattle.std.specs.Prelude.{Ok, Err, refl}
use Rattle.std.specs.BTreeMap.{insert_entry}
use Rattle.std.proofs.Common.{ap, ap₂, sym, subst, ◌∙◌, arith, inl, inr}
use Rattle.std.proofs.Math.Seq.{take-suc}
use Rattle.map_model.specs.Maps.{at, union, IsSorted}
use Rattle.map_model.specs.MapLaws.{sorted-put}
use Rattle.value_model.specs.Order.{text_cmp}
use Rattle.ejson_value.specs.Key.{name_order}
use Rattle.lanes.specs.Lanes.{Named, VisitBy, IsVisit, EachTold, IsAmong, AreLed, AreTold, Hears, either, AreLanes}
use Rattle.lanes.specs.UnionsLaws.{put_left, put_right, apart_left, apart_right, some_left, of_right, not_right, not_left, visited_some, visited_none}

-- the list so far with what stands next
pub next_take : {A : Type 0} (xs : List A) (i : ℕ) (x : A) → i < length xs → x ≡ get_or xs i x → take (i + 1) xs ≡ take i xs ++ x ∷ []
next_take xs i x less is = let e : i + 1 ≡ suc i = omega arith in ap (λ n. take n xs) e ∙ (take-suc xs i x less ∙ ap (λ y. take i xs ++ y ∷ []) (sym is))

or_swap : (now first rest : Bool) → (now || (first || rest)) ≡ (first || (now || rest))
or_swap true true rest = refl
or_swap true false rest = refl
or_swap false first rest = refl

or_four : (m n x y : Bool) → ((m || x) || (n || y)) ≡ ((m || n) || (x || y))
or_four true n x y = refl
or_four false true true y = refl
or_four false true false y = refl
or_four false false x y = refl

or_false : (m n : Bool) → n ≡ false → m ≡ (m || n)
or_false true n e = refl
or_false false n e = sym e

-- ---- who is among some

pub among_more : (names more : List (List ℕ)) (name : List ℕ) → IsAmong names name → IsAmong (names ++ more) name
among_more [] more name h = elim h [ ]
among_more (q ∷ names) more name h = elim h [ inl e ↦ inl e | inr r ↦ inr (among_more names more name r) ]

pub among_last : (names : List (List ℕ)) (name : List ℕ) → IsAmong (names ++ name ∷ []) name
among_last [] name = inl refl
among_last (q ∷ names) name = inr (among_last names name)

-- ---- values that are led on

module _ {X : Type 0} (Leads : X → X → Type 0) where
  led_weaker : (Who Whom : List ℕ → Type 0) → ((name : List ℕ) → Who name → Whom name) → (s a b : Named X) → AreLed Who Leads s a b → AreLed Whom Leads s a b
  led_weaker Who Whom f [] a b l = l
  led_weaker Who Whom f (e ∷ s) a b l = (l.0, l.1, l.2, led_weaker Who Whom f s (insert_entry text_cmp a e.0 e.1) b l.3, f e.0 l.4)

  module _ (Who : List ℕ → Type 0) where
    pub led_append : (s t a b c : Named X) → AreLed Who Leads s a b → AreLed Who Leads t b c → AreLed Who Leads (s ++ t) a c
    led_append [] t a b c l m = subst (λ (x : Named X). AreLed Who Leads t x c) l m
    led_append (e ∷ s) t a b c l m = (l.0, l.1, l.2, led_append s t (insert_entry text_cmp a e.0 e.1) b c l.3 m, l.4)

    pub led_sorted : (s a b : Named X) → AreLed Who Leads s a b → IsSorted text_cmp a → IsSorted text_cmp b
    led_sorted [] a b l t = subst (IsSorted text_cmp) (sym l) t
    led_sorted (e ∷ s) a b l t = led_sorted s (insert_entry text_cmp a e.0 e.1) b l.3 (sorted-put name_order a e.0 e.1 t)

    -- in either lane
    led_left : (s a a' b : Named X) → AreLed Who Leads s a a' → AreLanes a b → AreLed Who Leads s (union text_cmp a b) (union text_cmp a' b) × AreLanes a' b
    led_left [] a a' b l t = (ap (λ x. union text_cmp x b) l, subst (λ (x : Named X). AreLanes x b) (sym l) t)
    led_left (e ∷ s) a a' b l t =
        let none = not_right a b e.0 l.0 l.1 t.apart in
        let next : AreLanes (insert_entry text_cmp a e.0 e.1) b =
        record { one = sorted-put name_order a e.0 e.1 t.one; other = t.other; apart = apart_left a b e.0 e.1 none t.apart } in
        let rest = led_left s (insert_entry text_cmp a e.0 e.1) a' b l.3 next in (
          (
            l.0,
            some_left a b e.0 l.0 l.1,
            l.2,
            subst (λ (x : Named X). AreLed Who Leads s x (union text_cmp a' b)) (put_left a b e.0 e.1 t.other) rest.0,
            l.4,
          ),
          rest.1,
        )

    led_right : (s a b b' : Named X) → AreLed Who Leads s b b' → AreLanes a b → AreLed Who Leads s (union text_cmp a b) (union text_cmp a b') × AreLanes a b'
    led_right [] a b b' l t = (ap (union text_cmp a) l, subst (λ (x : Named X). AreLanes a x) (sym l) t)
    led_right (e ∷ s) a b b' l t =
        let none = not_left a b e.0 l.0 l.1 t.apart in
        let next : AreLanes a (insert_entry text_cmp b e.0 e.1) =
        record { one = t.one; other = sorted-put name_order b e.0 e.1 t.other; apart = apart_right a b e.0 e.1 none t.apart } in
        let rest = led_right s a (insert_entry text_cmp b e.0 e.1) b' l.3 next in (
          (
            l.0,
            of_right a b e.0 none ∙ l.1,
            l.2,
            subst (λ (x : Named X). AreLed Who Leads s x (union text_cmp a b')) (put_right a b e.0 e.1 none t.other) rest.0,
            l.4,
          ),
          rest.1,
        )

    both_led : (s t a a' b b' : Named X) → AreLed Who Leads s a a' → AreLed Who Leads t b b' → AreLanes a b →
        AreLed Who Leads (s ++ t) (union text_cmp a b) (union text_cmp a' b') × AreLanes a' b'
    both_led s t a a' b b' l m lanes =
        let one = led_left s a a' b l lanes in
        let two = led_right t a' b b' m one.1 in
        (led_append s t (union text_cmp a b) (union text_cmp a' b) (union text_cmp a' b') one.0 two.0, two.1)

-- ---- values that are told

module _ {X : Type 0} (Tells : X → X → Bool → Type 0) where
  -- one more is told
  pub told_more : (names : List (List ℕ)) (name : List ℕ) (a b c : Named X) (flag now : Bool) → EachTold Tells names a b flag →
      IsVisit Tells false b c name now → EachTold Tells (names ++ name ∷ []) a c (now || flag)
  told_more [] name a b c flag now t v = (c, now, false, subst (λ (x : Named X). IsVisit Tells false x c name now) t.0 v, (refl, refl), ap (λ f. now || f) t.1)
  told_more (n ∷ ns) name a b c flag now t v =
      (t.0, t.1, now || t.2, t.3, told_more ns name t.0 b c t.2 now t.4 v, ap (λ f. now || f) t.5 ∙ or_swap now t.1 t.2)

  -- a visit to a value of either lane
  record IsStep (name : List ℕ) (a b a' b' : Named X) (m n : Bool) : Type 0 where
    pub visit : IsVisit Tells false (union text_cmp a b) (union text_cmp a' b') name (m || n)
    pub lanes : AreLanes a' b'

  steps : (name : List ℕ) (a b a' b' : Named X) (m n : Bool) → IsVisit Tells false a a' name m → IsVisit Tells false b b' name n → AreLanes a b →
      IsStep name a b a' b' m n
  steps name a b a' b' m n v w t = by (at text_cmp a name) (at text_cmp b name) refl refl v w
    where
      by : (o p : Option X) → at text_cmp a name ≡ o → at text_cmp b name ≡ p → VisitBy o Tells false a a' name m → VisitBy p Tells false b b' name n →
          IsStep name a b a' b' m n
      by None None is there v w = record {
        visit = visited_none Tells false (union text_cmp a b) (union text_cmp a' b') name (m || n) (of_right a b name is ∙ there)
            (ap₂ (union text_cmp) v.0 w.0) (ap₂ (λ f g. f || g) v.1 w.1);
        lanes = subst (λ (x : Named X). AreLanes x b') (sym v.0) (subst (λ (x : Named X). AreLanes a x) (sym w.0) t);
      }
      by (Some old) None is there v w = record {
        visit = visited_some Tells false (union text_cmp a b) (union text_cmp a' b') name old v.0 (m || n) (some_left a b name old is)
            (ap₂ (union text_cmp) v.1 w.0 ∙ put_left a b name v.0 t.other) (subst (λ (f : Bool). Tells old v.0 f) (or_false m n w.1) v.2);
        lanes = subst (λ (x : Named X). AreLanes x b') (sym v.1)
            (subst (λ (x : Named X). AreLanes (insert_entry text_cmp a name v.0) x) (sym w.0)
            (record { one = sorted-put name_order a name v.0 t.one; other = t.other; apart = apart_left a b name v.0 there t.apart }));
      }
      by None (Some old) is there v w = record {
        visit = visited_some Tells false (union text_cmp a b) (union text_cmp a' b') name old w.0 (m || n) (of_right a b name is ∙ there)
            (ap₂ (union text_cmp) v.0 w.1 ∙ put_right a b name w.0 is t.other) (subst (λ (f : Bool). Tells old w.0 f) (sym (ap (λ f. f || n) v.1)) w.2);
        lanes = subst (λ (x : Named X). AreLanes x b') (sym v.0)
            (subst (λ (x : Named X). AreLanes a x) (sym w.1)
            (record { one = t.one; other = sorted-put name_order b name w.0 t.other; apart = apart_right a b name w.0 is t.apart }));
      }
      by (Some old) (Some new) is there v w = cc (sym (not_right a b name old is t.apart) ∙ there)

  both_told : (names : List (List ℕ)) (a b a' b' : Named X) (f g : Bool) → EachTold Tells names a a' f → EachTold Tells names b b' g → AreLanes a b →
      EachTold Tells names (union text_cmp a b) (union text_cmp a' b') (f || g)
  both_told [] a b a' b' f g t u lanes = (ap₂ (union text_cmp) t.0 u.0, ap₂ (λ f g. f || g) t.1 u.1)
  both_told (n ∷ ns) a b a' b' f g t u lanes =
      let s = steps n a b t.0 u.0 t.1 u.1 t.3 u.3 lanes in (
        union text_cmp t.0 u.0,
        t.1 || u.1,
        t.2 || u.2,
        s.visit,
        both_told ns t.0 u.0 a' b' t.2 u.2 t.4 u.4 s.lanes,
        ap₂ (λ f g. f || g) t.5 u.5 ∙ or_four t.1 u.1 t.2 u.2,
      )

  -- ---- where memory may run out

  module _ (Leads : X → X → Type 0) where
    -- a visit that made or left
    pub visit_ok : (E : Type 0) (name : List ℕ) (a b : Named X) (now : Bool) → IsVisit (Hears {E = E} Tells Leads) (Ok false) a b name (Ok now) →
        IsVisit Tells false a b name now
    visit_ok E name a b now v = by (at text_cmp a name) v
      where
        by : (o : Option X) → VisitBy o (Hears {E = E} Tells Leads) (Ok false) a b name (Ok now) → VisitBy o Tells false a b name now
        by None v = (v.0, cc v.1)
        by (Some old) v = v

    visit_err : {E : Type 0} (Who : List ℕ → Type 0) (name : List ℕ) (a b : Named X) (e : E) → Who name →
        IsVisit (Hears Tells Leads) (Ok false) a b name (Err e) → (s : Named X) × AreLed Who Leads s a b
    visit_err {E} Who name a b e who v = by (at text_cmp a name) refl v
      where
        by : (o : Option X) → at text_cmp a name ≡ o → VisitBy o (Hears Tells Leads) (Ok false) a b name (Err e) → (s : Named X) × AreLed Who Leads s a b
        by None is v = cc v.1
        by (Some old) is v = ((name, v.0) ∷ [], (old, is, v.2, v.1, who))

    module _ (told_leads : (x y : X) (flag : Bool) → Tells x y flag → Leads x y) where
      visit_led : (Who : List ℕ → Type 0) (name : List ℕ) (a b : Named X) (now : Bool) → Who name → IsVisit Tells false a b name now →
          (s : Named X) × AreLed Who Leads s a b
      visit_led Who name a b now who v = by (at text_cmp a name) refl v
        where
          by : (o : Option X) → at text_cmp a name ≡ o → VisitBy o Tells false a b name now → (s : Named X) × AreLed Who Leads s a b
          by None is v = ([], v.0)
          by (Some old) is v = ((name, v.0) ∷ [], (old, is, told_leads old v.0 now v.2, v.1, who))

      pub each_led : (names : List (List ℕ)) (a b : Named X) (flag : Bool) → EachTold Tells names a b flag → (s : Named X) × AreLed (IsAmong names) Leads s a b
      each_led [] a b flag t = ([], t.0)
      each_led (n ∷ ns) a b flag t =
          let one = visit_led (IsAmong (n ∷ ns)) n a t.0 t.1 (inl refl) t.3 in
          let rest = each_led ns t.0 b t.2 t.4 in (
            one.0 ++ rest.0,
            led_append Leads (IsAmong (n ∷ ns)) one.0 rest.0 a t.0 b one.1
                (led_weaker Leads (IsAmong ns) (IsAmong (n ∷ ns)) (λ name h. inr h) rest.0 t.0 b rest.1),
          )

      -- some were told, and at the next one memory ran out
      pub told_left : {E : Type 0} (before after : List (List ℕ)) (name : List ℕ) (a b c : Named X) (flag : Bool) (e : E) →
          EachTold Tells before a b flag → IsVisit (Hears Tells Leads) (Ok false) b c name (Err e) →
          (s : Named X) × AreLed (IsAmong ((before ++ name ∷ []) ++ after)) Leads s a c
      told_left before after name a b c flag e t v =
          let all = (before ++ name ∷ []) ++ after in
          let one = each_led before a b flag t in
          let two = visit_err (IsAmong all) name b c e (among_more (before ++ name ∷ []) after name (among_last before name)) v in (
            one.0 ++ two.0,
            led_append Leads (IsAmong all) one.0 two.0 a b c
                (led_weaker Leads (IsAmong before) (IsAmong all)
                (λ q h. among_more (before ++ name ∷ []) after q (among_more before (name ∷ []) q h)) one.0 a b one.1)
                two.1,
          )

      pub any_led : {E : Type 0} (names : List (List ℕ)) (a b : Named X) (r : Result Bool E) → AreTold Tells Leads names a b r →
          (s : Named X) × AreLed (IsAmong names) Leads s a b
      any_led names a b (Ok flag) t = each_led names a b flag t
      any_led names a b (Err e) t = t

      -- one lane that is told stays in order
      pub told_sorted : {E : Type 0} (names : List (List ℕ)) (a b : Named X) (r : Result Bool E) → AreTold Tells Leads names a b r →
          IsSorted text_cmp a → IsSorted text_cmp b
      told_sorted names a b r t s = let l = any_led names a b r t in led_sorted Leads (IsAmong names) l.0 a b l.1 s

      -- two lanes that are told at once are told as one
      pub lanes_told : {E : Type 0} (names : List (List ℕ)) (a b a' b' : Named X) (r s : Result Bool E) → AreTold Tells Leads names a a' r →
          AreTold Tells Leads names b b' s → AreLanes a b →
          AreTold Tells Leads names (union text_cmp a b) (union text_cmp a' b') (either r s)
      lanes_told names a b a' b' (Ok f) (Ok g) t u lanes = both_told names a b a' b' f g t u lanes
      lanes_told names a b a' b' (Ok f) (Err e) t u lanes =
          let l = each_led names a a' f t in (l.0 ++ u.0, (both_led Leads (IsAmong names) l.0 u.0 a a' b b' l.1 u.1 lanes).0)
      lanes_told names a b a' b' (Err e) s t u lanes =
          let l = any_led names b b' s u in (t.0 ++ l.0, (both_led Leads (IsAmong names) t.0 l.0 a a' b b' t.1 l.1 lanes).0)

      pub told_lanes : {E : Type 0} (names : List (List ℕ)) (a b a' b' : Named X) (r s : Result Bool E) → AreTold Tells Leads names a a' r →
          AreTold Tells Leads names b b' s → AreLanes a b → AreLanes a' b'
      told_lanes names a b a' b' r s t u lanes =
          let l = any_led names a a' r t in
          let k = any_led names b b' s u in
          (both_led Leads (IsAmong names) l.0 k.0 a a' b b' l.1 k.1 lanes).1
