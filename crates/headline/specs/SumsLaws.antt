-- Laws: Sums over the clients that are there: what becomes of them where one client changes.
use Rattle.std.specs.Prelude.{◌≡◌, ℕ, ◌+◌, ◌≤◌, ◌<◌, true, false, cond, List, [], ◌∷◌, sum_by, Some, None, refl}
use Rattle.std.specs.List.{AllByRecursion}
use Rattle.std.specs.Map.{keys_of}
use Rattle.std.specs.BTreeMap.{insert_entry}
use Rattle.std.specs.declared.cmp.Ordering.{Ordering}
use Rattle.std.specs.declared.cmp.Ordering.TheVariants.{Less, Equal, Greater}
use Rattle.std.specs.Ordering.{is_eq, match_ordering}
use Rattle.std.proofs.Common.{ap, sym, subst, ◌∙◌, arith}
use Rattle.std.proofs.lemmas.List.Sums.{sum_by-cons}
use Rattle.std.proofs.lemmas.Map.Keys.{sorted_head, sorted_tail}
use Rattle.map_model.specs.Maps.{at, IsSorted, IsKeyOrder}
use Rattle.value_model.specs.Order.{text_cmp}
use Rattle.ejson_value.specs.Key.{name_order}
use Rattle.world_model.specs.Conn.{Conn}
use Rattle.world_model.specs.World.{Conns}
use Rattle.world_model.specs.Settle.{sum_present}
use Rattle.headline.specs.Sums.{weigh, weight_of}

-- ---- sums over maps

module _ {K X : Type 0} (R : K → K → Ordering) (order : IsKeyOrder R) (weight : K × X → ℕ) where
  none_behind : (key : K) (m : List (K × X)) → AllByRecursion (λ k. R key k ≡ Less) (keys_of m) → at R m key ≡ None
  none_behind key [] h = refl
  none_behind key (e ∷ m) h = ap (λ o. cond (is_eq o) (Some e.1) (at R m key)) h.0 ∙ none_behind key m h.1

  behind_all : (key first : K) (ks : List K) → R key first ≡ Less → AllByRecursion (λ k. R first k ≡ Less) ks → AllByRecursion (λ k. R key k ≡ Less) ks
  behind_all key first [] e h = tt
  behind_all key first (k ∷ ks) e h = (order.total.trans key first k e h.0, behind_all key first ks e h.1)

  -- the weight of the value that goes against that of the one that comes
  pub sum-put : (m : List (K × X)) (key : K) (v w : X) → ((a b : K) (x : X) → weight (a, x) ≡ weight (b, x)) → IsSorted R m → at R m key ≡ Some v →
      sum_by weight (insert_entry R m key w) + weight (key, v) ≡ sum_by weight m + weight (key, w)
  sum-put [] key v w same s is = absurd (cc is)
  sum-put (e ∷ m) key v w same s is =
      let put = insert_entry R m key w in
      elim (R key e.0)
      as (λ o. R key e.0 ≡ o → cond (is_eq o) (Some e.1) (at R m key) ≡ Some v →
      sum_by weight (match_ordering o ((key, w) ∷ e ∷ m) ((e.0, w) ∷ m) (e ∷ put)) + weight (key, v) ≡ sum_by weight (e ∷ m) + weight (key, w)) [
        | Less ↦ λ less there.
            let none : at R m key ≡ None = none_behind key m (behind_all key e.0 (keys_of m) less (sorted_head R e.0 (keys_of m) s)) in
            let absent : None ≡ Some v = sym none ∙ there in
            absurd (cc absent)
        | Equal ↦ λ tied there.
            let here : e.1 ≡ v = cc there in
            omega (arith, sum_by-cons weight (e.0, w) m, sum_by-cons weight e m, same e.0 key w, same e.0 key e.1, ap (λ x. weight (key, x)) here)
        | Greater ↦ λ later there.
            let rest = sum-put m key v w same (sorted_tail R e.0 (keys_of m) s) there in
            omega (arith, sum_by-cons weight e put, sum_by-cons weight e m, rest)
      ] refl is

  -- weights that are nowhere greater, and less at one key
  pub sum_less : (other : K × X → ℕ) (m : List (K × X)) (key : K) (v : X) → ((e : K × X) → other e ≤ weight e) → at R m key ≡ Some v →
      ((k : K) → other (k, v) < weight (k, v)) →
      sum_by other m < sum_by weight m
  sum_less other [] key v le is less = absurd (cc is)
  sum_less other (e ∷ m) key v le is less =
      elim (is_eq (R key e.0)) as (λ b. cond b (Some e.1) (at R m key) ≡ Some v → sum_by other (e ∷ m) < sum_by weight (e ∷ m)) [
        | true ↦ λ there.
            let here : e.1 ≡ v = cc there in
            let one : other (e.0, e.1) < weight (e.0, e.1) = subst (λ x. other (e.0, x) < weight (e.0, x)) (sym here) (less e.0) in
            omega (arith, sum_by-cons other e m, sum_by-cons weight e m, sum_no_more other m le, one)
        | false ↦ λ there. omega (arith, sum_by-cons other e m, sum_by-cons weight e m, sum_less other m key v le there less, le e)
      ] is
    where
      sum_no_more : (other : K × X → ℕ) (m : List (K × X)) → ((e : K × X) → other e ≤ weight e) → sum_by other m ≤ sum_by weight m
      sum_no_more other [] le = omega arith
      sum_no_more other (e ∷ m) le = omega (arith, sum_by-cons other e m, sum_by-cons weight e m, sum_no_more other m le, le e)

  pub sum_same : (other : K × X → ℕ) (m : List (K × X)) → ((e : K × X) → other e ≡ weight e) → sum_by other m ≡ sum_by weight m
  sum_same other [] same = refl
  sum_same other (e ∷ m) same = omega (arith, sum_by-cons other e m, sum_by-cons weight e m, sum_same other m same, same e)

-- ---- sums over clients

pub present-put : (f : Conn → ℕ) (conns : Conns) (name : List ℕ) (c d : Conn) → IsSorted text_cmp conns → at text_cmp conns name ≡ Some c →
    sum_present f (insert_entry text_cmp conns name d) + weigh f c ≡ sum_present f conns + weigh f d
present-put f conns name c d s is = sum-put text_cmp name_order (weight_of f) conns name c d (λ a b x. refl) s is

here : (f : Conn → ℕ) (c : Conn) → c.is_dropped ≡ false → weigh f c ≡ f c
here f c e = ap (λ b. cond b 0 (f c)) e

-- where a client that is there has less, so has their sum
pub present_less : (f : Conn → ℕ) (conns : Conns) (name : List ℕ) (c d : Conn) → IsSorted text_cmp conns → at text_cmp conns name ≡ Some c →
    c.is_dropped ≡ false → d.is_dropped ≡ false → f d < f c →
    sum_present f (insert_entry text_cmp conns name d) < sum_present f conns
present_less f conns name c d s is there there_too less = omega (arith, present-put f conns name c d s is, here f c there, here f d there_too, less)

weigh_same : (f : Conn → ℕ) (c d : Conn) → c.is_dropped ≡ d.is_dropped → f c ≡ f d → weigh f c ≡ weigh f d
weigh_same f c d there same = ap (λ b. cond b 0 (f c)) there ∙ ap (λ n. cond d.is_dropped 0 n) same

pub present_same : (f : Conn → ℕ) (conns : Conns) (name : List ℕ) (c d : Conn) → IsSorted text_cmp conns → at text_cmp conns name ≡ Some c →
    c.is_dropped ≡ d.is_dropped → f c ≡ f d →
    sum_present f (insert_entry text_cmp conns name d) ≡ sum_present f conns
present_same f conns name c d s is there same = omega (arith, present-put f conns name c d s is, weigh_same f c d there same)

weigh_more : (f g : Conn → ℕ) (c : Conn) → g c ≤ f c → weigh g c ≤ weigh f c
weigh_more f g c le = elim c.is_dropped as (λ b. cond b 0 (g c) ≤ cond b 0 (f c)) [ true ↦ omega arith | false ↦ le ]

-- a measure that is nowhere greater than another, and less at a client that is there
pub present_lower : (f g : Conn → ℕ) (conns : Conns) (name : List ℕ) (c : Conn) → ((d : Conn) → g d ≤ f d) → at text_cmp conns name ≡ Some c →
    c.is_dropped ≡ false → g c < f c → sum_present g conns < sum_present f conns
present_lower f g conns name c le is there less =
    sum_less text_cmp name_order (weight_of f) (weight_of g) conns name c (λ e. weigh_more f g e.1 (le e.1)) is
    (λ k. omega (arith, here f c there, here g c there, less))

pub present_equal : (f g : Conn → ℕ) (conns : Conns) → ((d : Conn) → g d ≡ f d) → sum_present g conns ≡ sum_present f conns
present_equal f g conns same = sum_same text_cmp name_order (weight_of f) (weight_of g) conns (λ e. ap (λ n. cond e.1.is_dropped 0 n) (same e.1))
