-- Who is asked next in a round.
use Rattle.ejson_value.specs.declared.memory.Mem.{Mem}
use Rattle.std.specs.Prelude.{◌≡◌, ℕ, ◌+◌, ◌<◌, ◌≤◌, List, [], ◌∷◌, length, Bool, true, false, cond, Option, None, Some, is_some, MatchOption, Result, Ok, Err, IfOk, refl}
use Rattle.std.specs.Borrow.{Bor}
use Rattle.std.specs.Option.{option_copied}
use Rattle.std.specs.Map.{keys_of}
use Rattle.std.specs.declared.cmp.Ordering.{Ordering}
use Rattle.std.specs.declared.cmp.Ordering.TheVariants.{Less, Equal, Greater}
use Rattle.std.specs.Ordering.{is_lt, is_le, is_gt, is_eq, ordering_reverse}
use Rattle.std.specs.Cmp.{tied_itself}
use Rattle.std.proofs.Common.{ap, sym, subst, ◌∙◌, arith, inl, inr}
use Rattle.map_model.specs.Maps.{at}
use Rattle.value_model.specs.Order.{text_cmp}
use Rattle.ejson_value.specs.Key.{name_order}
use Rattle.lanes.specs.Names.{NoneFrom, IsLeastFrom}
use Rattle.world_laws.specs.World.{Names, AWorld, is_among}
use Rattle.world_laws.specs.Names.{names_from, behind, behind_it}
use Rattle.world_laws.specs.Doing.{IsWorker}
use Rattle.world_core.specs.Names.{lesser}
use Rattle.world_core.specs.Rounds.{IsNextFrom, IsNext}

-- ---- the order of names

less_is : (o : Ordering) → is_lt o ≡ true → o ≡ Less
less_is Less e = refl
less_is Equal e = cc e
less_is Greater e = cc e

less_through : (a b c : List ℕ) → text_cmp a b ≡ Less → text_cmp b c ≡ Less → text_cmp a c ≡ Less
less_through a b c first second = name_order.total.trans a b c first second

-- up to a name, and before another
le_less : (a b c : List ℕ) → is_le (text_cmp a b) ≡ true → is_lt (text_cmp b c) ≡ true → is_lt (text_cmp a c) ≡ true
le_less a b c first second = by (text_cmp a b) refl first
  where
    by : (o : Ordering) → text_cmp a b ≡ o → is_le o ≡ true → is_lt (text_cmp a c) ≡ true
    by Less e le = ap is_lt (less_through a b c e (less_is (text_cmp b c) second))
    by Equal e le = subst (λ (k : List ℕ). is_lt (text_cmp k c) ≡ true) (sym (name_order.exact a b e)) second
    by Greater e le = cc le

lt_le : (o : Ordering) → is_lt o ≡ true → is_le o ≡ true
lt_le Less e = refl
lt_le Equal e = cc e
lt_le Greater e = cc e

-- before a name that isn't behind another
less_le : (a b c : List ℕ) → is_lt (text_cmp a b) ≡ true → is_gt (text_cmp b c) ≡ false → is_lt (text_cmp a c) ≡ true
less_le a b c first second = by (text_cmp b c) refl second
  where
    by : (o : Ordering) → text_cmp b c ≡ o → is_gt o ≡ false → is_lt (text_cmp a c) ≡ true
    by Less e le = ap is_lt (less_through a b c (less_is (text_cmp a b) first) e)
    by Equal e le = subst (λ (k : List ℕ). is_lt (text_cmp a k) ≡ true) (name_order.exact b c e) first
    by Greater e le = cc le

greater_less : (a b : List ℕ) → is_gt (text_cmp a b) ≡ true → text_cmp b a ≡ Less
greater_less a b e = name_order.total.antisymm b a ∙ by (text_cmp a b) e
  where
    by : (o : Ordering) → is_gt o ≡ true → ordering_reverse o ≡ Less
    by Less e = cc e
    by Equal e = cc e
    by Greater e = refl

-- ---- the first name

abbrev pub IsFirst : List ℕ → Names → Option (List ℕ) → Type 0
IsFirst from names None = NoneFrom from names
IsFirst from names (Some name) = IsLeastFrom from names name

pub first_is : (from : List ℕ) (names : Names) (o : Option (Bor (List ℕ))) → MatchOption o (NoneFrom from names) (λ name. IsLeastFrom from names name.now) → IsFirst from names (option_copied o)
first_is from names None m = m
first_is from names (Some name) m = m

none_among : (names : Names) (q : List ℕ) → at text_cmp names q ≡ None → is_among names q ≡ false
none_among names q e = ap is_some e

module _ (x : AWorld) (from : List ℕ) where
  -- while the history stays as it is
  pub busy_next : length x.history ≡ x.settled → (o : Option (List ℕ)) → IsFirst from x.busy o → IsNext x from o
  busy_next same None none = λ q le. (none_among x.busy q (none q le), inl same)
  busy_next same (Some name) first = record {
    behind = first.behind;
    worker = inl first.there;
    passed = λ q le less. (none_among x.busy q (first.least q le less), inl same);
  }

  -- once it has grown
  pub both_next : (length x.history ≡ x.settled → ⊥) → (a b : Option (List ℕ)) → IsFirst from x.busy a → IsFirst from x.present b → IsNext x from (lesser a b)
  both_next grown None None busy present = λ q le. (none_among x.busy q (busy q le), inr (none_among x.present q (present q le)))
  both_next grown None (Some b) busy present = record {
    behind = present.behind;
    worker = inr (present.there, grown);
    passed = λ q le less. (none_among x.busy q (busy q le), inr (none_among x.present q (present.least q le less)));
  }
  both_next grown (Some a) None busy present = record {
    behind = busy.behind;
    worker = inl busy.there;
    passed = λ q le less. (none_among x.busy q (busy.least q le less), inr (none_among x.present q (present q le)));
  }
  both_next grown (Some a) (Some b) busy present = by (is_gt (text_cmp a b)) refl
    where
      by : (g : Bool) → is_gt (text_cmp a b) ≡ g → IsNext x from (cond g (Some b) (Some a))
      by true e = record {
        behind = present.behind;
        worker = inr (present.there, grown);
        passed = λ q le less. (none_among x.busy q (busy.least q le (ap is_lt (less_through q b a (less_is (text_cmp q b) less) (greater_less a b e)))), inr (none_among x.present q (present.least q le less)));
      }
      by false e = record {
        behind = busy.behind;
        worker = inl busy.there;
        passed = λ q le less. (none_among x.busy q (busy.least q le less), inr (none_among x.present q (present.least q le (less_le q a b less e))));
      }

-- what is copied is the same name
pub copied_next : (x : AWorld) (from : List ℕ) (r : Result (Option (List ℕ)) Mem) (o : Option (List ℕ)) → IfOk r (λ name. name ≡ o) → IsNext x from o → IfOk r (IsNext x from)
copied_next x from (Ok name) o is n = subst (IsNext x from) (sym is) n
copied_next x from (Err m) o is n = tt

-- ---- how many names are left

module _ (from name : List ℕ) (le : is_le (text_cmp from name) ≡ true) where
  pub stays_behind : (q : List ℕ) → is_le (text_cmp (behind name) q) ≡ true → is_le (text_cmp from q) ≡ true
  stays_behind q e = lt_le (text_cmp from q) (le_less from name q le (sym (behind_it name q) ∙ e))

  abbrev left : Names → ℕ
  left es = length (names_from from (keys_of es))

  abbrev later : Names → ℕ
  later es = length (names_from (behind name) (keys_of es))

  pub no_more : (es : Names) → later es ≤ left es
  no_more [] = omega arith
  no_more (e ∷ es) = let rest = no_more es in by (is_le (text_cmp (behind name) e.0)) refl (is_le (text_cmp from e.0)) refl rest
    where
      by : (b : Bool) → is_le (text_cmp (behind name) e.0) ≡ b → (c : Bool) → is_le (text_cmp from e.0) ≡ c → later es ≤ left es →
          length (cond b (e.0 ∷ names_from (behind name) (keys_of es)) (names_from (behind name) (keys_of es))) ≤ length (cond c (e.0 ∷ names_from from (keys_of es)) (names_from from (keys_of es)))
      by true f true g rest = omega (arith, rest)
      by true f false g rest = cc (sym (stays_behind e.0 f) ∙ g)
      by false f true g rest = omega (arith, rest)
      by false f false g rest = rest

  itself_not : is_le (text_cmp (behind name) name) ≡ false
  itself_not = behind_it name name ∙ ap is_lt (tied_itself name_order.total name)

  pub fewer : (es : Names) → is_some (at text_cmp es name) ≡ true → later es < left es
  fewer [] e = cc e
  fewer (e ∷ es) there = by_name (is_eq (text_cmp name e.0)) refl (λ t. fewer es t) there
    where
      by : (b : Bool) → is_le (text_cmp (behind name) e.0) ≡ b → (c : Bool) → is_le (text_cmp from e.0) ≡ c → later es < left es →
          length (cond b (e.0 ∷ names_from (behind name) (keys_of es)) (names_from (behind name) (keys_of es))) < length (cond c (e.0 ∷ names_from from (keys_of es)) (names_from from (keys_of es)))
      by true f true g rest = omega (arith, rest)
      by true f false g rest = cc (sym (stays_behind e.0 f) ∙ g)
      by false f true g rest = omega (arith, rest)
      by false f false g rest = rest

      here : (b : Bool) → b ≡ false → (c : Bool) → c ≡ true → later es ≤ left es →
          length (cond b (e.0 ∷ names_from (behind name) (keys_of es)) (names_from (behind name) (keys_of es))) < length (cond c (e.0 ∷ names_from from (keys_of es)) (names_from from (keys_of es)))
      here true f c g rest = cc f
      here false f true g rest = omega (arith, rest)
      here false f false g rest = cc g

      eq_is : (o : Ordering) → is_eq o ≡ true → o ≡ Equal
      eq_is Less e = cc e
      eq_is Equal e = refl
      eq_is Greater e = cc e

      by_name : (b : Bool) → is_eq (text_cmp name e.0) ≡ b → (is_some (at text_cmp es name) ≡ true → later es < left es) → is_some (cond b (Some e.1) (at text_cmp es name)) ≡ true → later (e ∷ es) < left (e ∷ es)
      by_name true f rest t =
          let same : name ≡ e.0 = name_order.exact name e.0 (eq_is (text_cmp name e.0) f) in
          here (is_le (text_cmp (behind name) e.0)) (ap (λ (k : List ℕ). is_le (text_cmp (behind name) k)) (sym same) ∙ itself_not) (is_le (text_cmp from e.0)) (ap (λ (k : List ℕ). is_le (text_cmp from k)) (sym same) ∙ le) (no_more es)
      by_name false f rest t = by (is_le (text_cmp (behind name) e.0)) refl (is_le (text_cmp from e.0)) refl (rest t)

abbrev pub left_from : List ℕ → Names → Names → ℕ
left_from from busy present = length (names_from from (keys_of busy)) + length (names_from from (keys_of present))

pub next_is_less : (x : AWorld) (from name : List ℕ) → IsNextFrom x from name → left_from (behind name) x.busy x.present < left_from from x.busy x.present
next_is_less x from name n = by n.worker
  where
    by : IsWorker x name → left_from (behind name) x.busy x.present < left_from from x.busy x.present
    by (inl busy) = let a = fewer from name n.behind x.busy busy in let b = no_more from name n.behind x.present in omega (arith, a, b)
    by (inr there) = let a = no_more from name n.behind x.busy in let b = fewer from name n.behind x.present there.0 in omega (arith, a, b)
