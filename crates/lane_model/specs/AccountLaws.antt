-- Laws: accounts stay true, event by event, and what the whole history says of them.
use Rattle.std.specs.Prelude.{◌≡◌, ℕ, ◌==◌, ◌<◌, ◌≤◌, List, [], ◌∷◌, ◌++◌, length, map, cond, not, Bool, true, false, Option, None, Some, Contains, refl}
use Rattle.std.proofs.Common.{ap, sym, subst, ◌∙◌, arith, length-append}
use Rattle.std.proofs.lemmas.Bool.{eq-eqb, ne_eqb}
use mathlib.Core.List.{IsPrefix}
use Rattle.session_model.specs.Methods.{Blocking, is_blocked_by}
use Rattle.history_model.specs.History.{Rise}
use Rattle.lane_model.specs.Among.{AreAmong, AllBelow}
use Rattle.lane_model.specs.RisingLaws.{among_more, among_snoc, rising_within, rise_some, more_within}
use Rattle.lane_model.specs.Account.{
  number_of,
  AreInOrder,
  IsLast,
  Account,
  owed_by,
  owed,
  IsTrueTo,
  new_account,
  handled,
  freed,
  refused,
  begins,
  marks,
  IsSettled,
}

-- ---- what is begun while none blocks, or while the last one does

all_owed : (calls : List Blocking) → owed_by false None calls ≡ calls
all_owed [] = refl
all_owed (c ∷ calls) = ap (λ cs. c ∷ cs) (all_owed calls)

owed_free : (has_begun : Bool) (calls : List Blocking) → owed_by has_begun None calls ≡ calls
owed_free true calls = refl
owed_free false calls = all_owed calls

owed_last : (b : Blocking) (calls : List Blocking) → AllBelow number_of b.k calls → owed_by false (Some b) (calls ++ b ∷ []) ≡ calls
owed_last b [] p = ap (λ x. cond (not x) (b ∷ []) []) (eq-eqb b.k b.k refl)
owed_last b (c ∷ calls) p =
    let rest = owed_by false (Some b) (calls ++ b ∷ []) in
    let apart : (c.k == b.k) ≡ false = ne_eqb c.k b.k (λ s. omega (arith, s, p.0)) in
    ap (λ x. cond (not x) (c ∷ rest) rest) apart ∙ ap (λ cs. c ∷ cs) (owed_last b calls p.1)

-- the lane has not begun the call that blocks, and has begun those before it
older_owed : (a : Account) (b : Blocking) (others : List Blocking) → a.has_begun ≡ false → a.blocking ≡ Some b → IsLast b others a.standing →
    owed a ≡ others
older_owed a b others unbegun blocks last =
    ap (λ (hb : Bool). owed_by hb a.blocking a.standing) unbegun
    ∙ (ap (λ (o : Option Blocking). owed_by false o a.standing) blocks
    ∙ (ap (λ (calls : List Blocking). owed_by false (Some b) calls) last.is ∙ owed_last b others last.below))

-- ---- one account for another, of the same calls that the lane has begun

same_owed : (begun : List Blocking) (old new : Account) → owed new ≡ owed old → new.made ≡ old.made → new.marked ≡ old.marked → IsTrueTo begun old →
    IsTrueTo begun new
same_owed begun old new same made marked t = record {
  are_there = subst (λ (calls : List Blocking). AreAmong calls begun) (sym same) t.are_there;
  counted = made ∙ (t.counted ∙ sym (ap (λ (calls : List Blocking). length calls) same));
  foreign = λ is. let less = t.foreign (sym marked ∙ is) in omega (arith, less, made);
}

among_longer : (calls begun begun' : List Blocking) → IsPrefix begun begun' → AreAmong calls begun → AreAmong calls begun'
among_longer calls begun begun' p h = subst (AreAmong calls) p.1 (among_more calls begun p.0 h)

-- ---- events

pub true_new : IsTrueTo [] new_account
true_new = record { are_there = λ k d less. absurd (omega (arith, less)); counted = refl; foreign = λ is. cc is }

-- the history goes on
pub true_longer : (begun begun' : List Blocking) (a : Account) → IsPrefix begun begun' → IsTrueTo begun a → IsTrueTo begun' a
true_longer begun begun' a p t = record {
  are_there = among_longer (owed a) begun begun' p t.are_there;
  counted = t.counted;
  foreign = λ is.
      let less = t.foreign is in
      let long = length-append begun p.0 in
      let all = ap (λ (calls : List Blocking). length calls) p.1 in omega (arith, less, long, all);
}

pub true_handled : (begun : List Blocking) (a : Account) (b : Blocking) → a.blocking ≡ None → AllBelow number_of b.k a.standing → IsTrueTo begun a →
    IsTrueTo begun (handled b a)
true_handled begun a b free below t =
    let before : owed a ≡ a.standing = ap (λ (o : Option Blocking). owed_by a.has_begun o a.standing) free ∙ owed_free a.has_begun a.standing in
    same_owed begun a (handled b a) (owed_last b a.standing below ∙ sym before) refl refl t

-- while none blocks, it is the same whether the lane has begun it
pub true_free : (begun : List Blocking) (a : Account) → a.blocking ≡ None → IsTrueTo begun a → IsTrueTo begun (record a { has_begun = false })
true_free begun a free t =
    let now : Account = record a { has_begun = false } in
    let before : owed a ≡ a.standing = ap (λ (o : Option Blocking). owed_by a.has_begun o a.standing) free ∙ owed_free a.has_begun a.standing in
    let after : owed now ≡ a.standing = ap (λ (o : Option Blocking). owed_by false o a.standing) free ∙ all_owed a.standing in
    same_owed begun a now (after ∙ sym before) refl refl t

pub true_freed : (begun : List Blocking) (a : Account) → a.has_begun ≡ true → IsTrueTo begun a → IsTrueTo begun (freed a)
true_freed begun a own t =
    let after : owed (freed a) ≡ a.standing = ap (λ (hb : Bool). owed_by hb None a.standing) own in
    let before : owed a ≡ a.standing = ap (λ (hb : Bool). owed_by hb a.blocking a.standing) own in
    same_owed begun a (freed a) (after ∙ sym before) refl refl t

pub true_refused : (begun : List Blocking) (a : Account) (b : Blocking) (others : List Blocking) → a.has_begun ≡ false → a.blocking ≡ Some b →
    IsLast b others a.standing → IsTrueTo begun a → IsTrueTo begun (refused others a)
true_refused begun a b others unbegun blocks last t =
    same_owed begun a (refused others a) (owed_free a.has_begun others ∙ sym (older_owed a b others unbegun blocks last)) refl refl t

pub true_begins : (begun begun' : List Blocking) (a : Account) (b : Blocking) (others : List Blocking) → a.has_begun ≡ false → a.marked ≡ false →
    a.blocking ≡ Some b → IsLast b others a.standing → IsPrefix begun begun' → Contains begun' b → IsTrueTo begun a → IsTrueTo begun' (begins a)
true_begins begun begun' a b others unbegun unmarked blocks last p there t =
    let before = older_owed a b others unbegun blocks last in
    let count : a.made ≡ length others = t.counted ∙ ap (λ (calls : List Blocking). length calls) before in
    let older = among_longer others begun begun' p (subst (λ (calls : List Blocking). AreAmong calls begun) before t.are_there) in
    record {
      are_there = subst (λ (calls : List Blocking). AreAmong calls begun') (sym last.is) (among_snoc others begun' b older there);
      counted =
          let long = length-append others (b ∷ []) in
          let all = ap (λ (calls : List Blocking). length calls) last.is in omega (arith, count, long, all);
      foreign = λ is. cc (sym unmarked ∙ is);
    }

-- the history begins a call that is not before the one that blocks
pub true_marks : (begun begun' : List Blocking) (a : Account) (b found : Blocking) (others : List Blocking) → a.has_begun ≡ false →
    a.blocking ≡ Some b → IsLast b others a.standing → AreInOrder a.standing → AreInOrder begun' →
    IsPrefix begun begun' → Contains begun' found → b.k ≤ found.k → IsTrueTo begun a → IsTrueTo begun' (marks a)
true_marks begun begun' a b found others unbegun blocks last rises legal p there le t =
    let before = older_owed a b others unbegun blocks last in
    let count : a.made ≡ length others = t.counted ∙ ap (λ (calls : List Blocking). length calls) before in
    let older = among_longer others begun begun' p (subst (λ (calls : List Blocking). AreAmong calls begun) before t.are_there) in
    let rise : Rise (map number_of others) =
    subst (λ (calls : List Blocking). Rise (map number_of calls)) (owed_last b others last.below)
    (rise_some number_of (λ (call : Blocking). not (is_blocked_by call.k (Some b))) (others ++ b ∷ [])
    (subst (λ (calls : List Blocking). Rise (map number_of calls)) last.is rises)) in
    let more = more_within number_of others begun' found rise legal older (lower b.k found.k others le last.below) there in
    let grown = true_longer begun begun' a p t in
    record { are_there = grown.are_there; counted = grown.counted; foreign = λ is. omega (arith, more, count) }
  where
    lower : (n m : ℕ) (cs : List Blocking) → n ≤ m → AllBelow number_of n cs → AllBelow number_of m cs
    lower n m [] le q = tt
    lower n m (x ∷ cs) le q = (omega (arith, q.0, le), lower n m cs le q.1)

-- ---- the whole history

pub true_settled : (begun all : List Blocking) (a : Account) → AreInOrder a.standing → AreInOrder all → IsPrefix begun all →
    length all ≡ a.made → IsTrueTo begun a → IsSettled a all
true_settled begun all a rises legal p exact t =
    let grown = true_longer begun all a p t in
    let within = rising_within number_of (owed a) all (rise a.has_begun) legal grown.are_there in
    let count = grown.counted in
    record { unmarked = by a.marked grown.foreign; exact = sym (within.whole (omega (arith, exact, count))) }
  where
    rise : (hb : Bool) → Rise (map number_of (owed_by hb a.blocking a.standing))
    rise true = rises
    rise false = rise_some number_of (λ (call : Blocking). not (is_blocked_by call.k a.blocking)) a.standing rises

    by : (m : Bool) → (m ≡ true → a.made < length all) → m ≡ false
    by false f = refl
    by true f = let less = f refl in absurd (omega (arith, less, exact))
