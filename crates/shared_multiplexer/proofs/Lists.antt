-- Lists of passes, and copies of entries of them.
use Rattle.std.specs.Prelude.{◌≡◌, ℕ, zero, suc, ◌+◌, ◌-◌, ◌*◌, ◌<◌, ◌≤◌, List, [], ◌∷◌, ◌++◌, length, take, drop, Option, Some, None, IfSome, Result, Ok, Err, IfOk, Bool, true, false, nat_lt, min, if◌then◌else◌, refl}
use Rattle.std.proofs.Common.{ap, ap₂, sym, subst, ◌∙◌, arith, length-append, ⊎_elim}
use Rattle.std.proofs.lemmas.Bool.Decides.{leb_tells}
use Rattle.std.proofs.lemmas.List.{append_assoc, append-nil}
use mathlib.Core.List.{IsPrefix}
use Rattle.app_model.specs.App.{App}
use Rattle.ejson_value.specs.declared.change.Change.{Change}
use Rattle.ejson_value.specs.declared.memory.Mem.{Mem}
use Rattle.history_model.specs.declared.entry.Entry.{Entry}
use Rattle.history_model.specs.History.{Programs, changes_between}
use Rattle.pass_log.specs.History.{longer}
use Rattle.store_machine.specs.State.{MachineState, programs}
use Rattle.world_news_laws.specs.multiplexer.LongerLaws.{between_longer, told_longer}
use Rattle.world_news_laws.specs.multiplexer.Looks.{looks}
use Rattle.world_news_laws.specs.multiplexer.Spans.{IsLent}
use Rattle.world_news_laws.specs.multiplexer.Telling.{ANews, batch_of}
use Rattle.world_news_laws.specs.multiplexer.declared.news.Lent.{Lent}
use Rattle.world_news_laws.specs.multiplexer_for_proofs.BetweenLaws.{between_more, none_between}
use Rattle.world_news_laws.specs.multiplexer_for_proofs.LendingLaws.{lent_longer, lent_shorter}
use Rattle.session_state.specs.declared.subs.Sub.{Sub}
use Rattle.world_news_laws.specs.Sources.{cursors_at_of}
use Rattle.shared_multiplexer.specs.Copied.{ACopy, all_of, changes_in, next_of, with_one, AreFrom, AreCopiedOf, IsNext, IsBatchOf, AreBehind}
use Rattle.history_log.specs.declared.batch.Batch.{Batch}
use Rattle.shared_store.specs.Store.{over, Fetches}
use Rattle.shared_multiplexer.specs.Told.{AHeldNews, AreTheirs}

-- ---- beginnings of lists

pub prefix_same : (xs : List Entry) → IsPrefix xs xs
prefix_same xs = ([], append-nil xs)

pub prefix_then : (xs ys zs : List Entry) → IsPrefix xs ys → IsPrefix ys zs → IsPrefix xs zs
prefix_then xs ys zs p q = (p.0 ++ q.0, sym (append_assoc xs p.0 q.0) ∙ (ap (λ (es : List Entry). es ++ q.0) p.1 ∙ q.1))

-- ---- longer lists

module _ (app : App) (xs ys : List Entry) (p : IsPrefix xs ys) where
  -- what is kept of a list is that of the longer one
  pub theirs_longer : (news : ANews) → AreTheirs app (record { news = news; list = xs }) → AreTheirs app (record { news = news; list = ys })
  theirs_longer news theirs = subst (λ (es : List Entry). AreTheirs app (record { news = news; list = es })) p.1 (told_longer (cursors_at_of app) (over app xs) p.0 news theirs)

  pub length_longer : length xs ≤ length ys
  length_longer = omega (arith, ap length p.1, length-append xs p.0)

  changes_longer : (place count : ℕ) → place + count ≤ length xs → changes_between (programs app) xs place count ≡ changes_between (programs app) ys place count
  changes_longer place count fits = sym (between_longer (programs app) xs p.0 place count fits) ∙ ap (λ es. changes_between (programs app) es place count) p.1

  from_longer : (place : ℕ) (all : List (List Change)) → place + length all ≤ length xs → AreFrom (programs app) xs place all → AreFrom (programs app) ys place all
  from_longer place [] fits are = omega (arith, are, length_longer)
  from_longer place (changes ∷ all) fits are = (
    are.0 ∙ changes_longer place 1 (omega (arith, fits)),
    from_longer (suc place) all (omega (arith, fits)) are.1,
  )

  from_within : (place : ℕ) (all : List (List Change)) → AreFrom (programs app) xs place all → place + length all ≤ length xs
  from_within place [] are = omega (arith, are)
  from_within place (changes ∷ all) are = let rest = from_within (suc place) all are.1 in omega (arith, rest)

  pub copied_longer : (c : ACopy) → AreCopiedOf c (over app xs) → AreCopiedOf c (over app ys)
  copied_longer c are = from_longer c.first c.changes (from_within c.first c.changes are) are

  -- what is lent of the longer list is lent of the shorter one, where that has the entries
  pub lent_of : (sub : Sub) (from until : ℕ) (lent : Lent) → until ≤ length xs → IsLent (over app ys) sub from until lent → IsLent (over app xs) sub from until lent
  lent_of sub from until lent le is = lent_shorter (over app xs) p.0 sub from until lent le (subst (λ (es : List Entry). IsLent (over app es) sub from until lent) (sym p.1) is)

  pub lent_in : (sub : Sub) (from until : ℕ) (lent : Lent) → IsLent (over app xs) sub from until lent → IsLent (over app ys) sub from until lent
  lent_in sub from until lent is = subst (λ (es : List Entry). IsLent (over app es) sub from until lent) p.1 (lent_longer (over app xs) p.0 sub from until lent is)

  pub lent_on : {E : Type 0} (sub : Sub) (from until : ℕ) (result : Result (Option Lent) E) → IfOk result (λ answer. IfSome answer (IsLent (over app xs) sub from until)) → IfOk result (λ answer. IfSome answer (IsLent (over app ys) sub from until))
  lent_on sub from until (Ok None) is = tt
  lent_on sub from until (Ok (Some lent)) is = lent_in sub from until lent is
  lent_on sub from until (Err e) is = tt

  pub lent_back : {E : Type 0} (sub : Sub) (from until : ℕ) (result : Result (Option Lent) E) → until ≤ length xs → IfOk result (λ answer. IfSome answer (IsLent (over app ys) sub from until)) → IfOk result (λ answer. IfSome answer (IsLent (over app xs) sub from until))
  lent_back sub from until (Ok None) le is = tt
  lent_back sub from until (Ok (Some lent)) le is = lent_of sub from until lent le is
  lent_back sub from until (Err e) le is = tt

  -- no more is looked at in the longer list
  pub looks_longer : (n place until : ℕ) → until ≤ length xs → looks n (over app xs) place until ≡ looks n (over app ys) place until
  looks_longer n place until le =
      let P : ℕ → Type 0 = λ count. n * (2 * length (changes_between (programs app) xs place count)) ≡ n * (2 * length (changes_between (programs app) ys place count)) in
      let none : until < place → P (until - place) = λ less. subst P (let e : 0 ≡ until - place = omega (arith, less) in e) refl in
      let some : place ≤ until → P (until - place) = λ more. ap (λ (cs : List Change). n * (2 * length cs)) (changes_longer place (until - place) (omega (arith, le, more))) in
      ⊎_elim (λ both. some both.1) (λ both. none both.1) (leb_tells place until)

-- ---- a copy of entries

module _ (app : Programs) (history : List Entry) where
  pub within_of : (place : ℕ) (all : List (List Change)) → AreFrom app history place all → place + length all ≤ length history
  within_of place [] are = omega (arith, are)
  within_of place (changes ∷ all) are = let rest = within_of (suc place) all are.1 in omega (arith, rest)

  -- with one entry more
  pub from_with : (place : ℕ) (all : List (List Change)) (changes : List Change) → place + length all < length history → changes ≡ changes_between app history (place + length all) 1 → AreFrom app history place all → AreFrom app history place (all ++ changes ∷ [])
  from_with place [] changes less is are = let e : place + 0 ≡ place = omega arith in (is ∙ ap (λ n. changes_between app history n 1) e, let le : suc place ≤ length history = omega (arith, less) in le)
  from_with place (x ∷ all) changes less is are =
      let e : place + length (x ∷ all) ≡ suc place + length all = omega arith in
      (are.0, from_with (suc place) all changes (omega (arith, less)) (is ∙ ap (λ n. changes_between app history n 1) e) are.1)

  -- some of them, one after another
  first_joined : (place n : ℕ) (all : List (List Change)) → AreFrom app history place all → n ≤ length all → all_of (take n all) ≡ changes_between app history place n
  first_joined place zero all are le = sym (none_between app history place)
  first_joined place (suc n) [] are le = absurd (omega (arith, le))
  first_joined place (suc n) (x ∷ all) are le =
      let e : 1 + n ≡ suc n = omega arith in
      let f : suc place ≡ place + 1 = omega arith in
      ap₂ (λ (a b : List Change). a ++ b) are.0 (first_joined (suc place) n all are.1 (omega (arith, le)) ∙ ap (λ k. changes_between app history k n) f)
      ∙ (sym (between_more app history place 1 n) ∙ ap (λ k. changes_between app history place k) e)

  some_joined : (place i n : ℕ) (all : List (List Change)) → AreFrom app history place all → i + n ≤ length all → all_of (take n (drop i all)) ≡ changes_between app history (place + i) n
  some_joined place zero n all are le = let e : place ≡ place + 0 = omega arith in first_joined place n all are (omega (arith, le)) ∙ ap (λ k. changes_between app history k n) e
  some_joined place (suc i) n [] are le = absurd (omega (arith, le))
  some_joined place (suc i) n (x ∷ all) are le =
      let e : suc place + i ≡ place + suc i = omega arith in
      some_joined (suc place) i n all are.1 (omega (arith, le)) ∙ ap (λ k. changes_between app history k n) e

-- the changes of some of them are the history's
pub copied_changes : (c : ACopy) (m : MachineState) → AreCopiedOf c m → (place count : ℕ) → c.first ≤ place → place + count ≤ next_of c → changes_in c place count ≡ changes_between (programs m.app) m.history place count
copied_changes c m are place count first next =
    let e : c.first + (place - c.first) ≡ place = omega (arith, first) in
    some_joined (programs m.app) m.history c.first (place - c.first) count c.changes are (omega (arith, first, next)) ∙ ap (λ n. changes_between (programs m.app) m.history n count) e

-- the next entry of the history is copied too
pub with_next : (c : ACopy) (m : MachineState) (changes : List Change) → AreCopiedOf c m → IsNext c m changes → AreCopiedOf (with_one c changes) m
with_next c m changes are next = from_with (programs m.app) m.history c.first c.changes changes next.there next.made are

-- it is what a store was asked for
pub fetched_next : (app : App) (history : List Entry) (c : ACopy) (from : ℕ) (r : Result (Option Batch) Mem) (batch : Batch) → from ≡ next_of c → Fetches app from 1 history r → r ≡ Ok (Some batch) → IsNext c (over app history) batch.changes
fetched_next app history c from r batch same fetches is =
    let f : Fetches app from 1 history (Ok (Some batch)) = subst (λ (x : Result (Option Batch) Mem). Fetches app from 1 history x) is fetches in
    let one : min 1 (length history - from) ≡ 1 = omega (arith, f.0) in
    record {
      there = subst (λ n. n < length history) same f.0;
      made = ap (λ (b : Batch). b.changes) f.1 ∙ (ap (λ n. changes_between (programs app) history from n) one ∙ ap (λ n. changes_between (programs app) history n 1) same);
    }

pub none_behind : (app : App) (history : List Entry) (from most : ℕ) (r : Result (Option Batch) Mem) → Fetches app from most history r → r ≡ Ok None → length history ≤ from
none_behind app history from most r fetches is = subst (λ (x : Result (Option Batch) Mem). Fetches app from most history x) is fetches

-- it is the first
pub fetched_first : (app : App) (history : List Entry) (c : ACopy) (from : ℕ) (r : Result (Option Batch) Mem) (batch : Batch) → c ≡ record { first = from; changes = [] } → Fetches app from 1 history r → r ≡ Ok (Some batch)
    → AreCopiedOf c (over app history) × IsNext c (over app history) batch.changes
fetched_first app history c from r batch new fetches is =
    let f : Fetches app from 1 history (Ok (Some batch)) = subst (λ (x : Result (Option Batch) Mem). Fetches app from 1 history x) is fetches in
    let le : from ≤ length history = omega (arith, f.0) in
    let e : from ≡ from + 0 = omega arith in
    (subst (λ (x : ACopy). AreCopiedOf x (over app history)) (sym new) le, fetched_next app history c from r batch (e ∙ ap next_of (sym new)) fetches is)

-- a first one, and others behind it
pub behind : (app : App) (from most : ℕ) (list : List Entry) (old c : ACopy) (changes : List Change) → old ≡ record { first = from; changes = changes ∷ [] } → 1 ≤ most → c.first ≡ old.first → length old.changes ≤ length c.changes
    → length c.changes ≤ length old.changes + (most - 1) → AreCopiedOf c (over app list) → (length c.changes < length old.changes + (most - 1) → length list ≤ next_of c) → AreBehind app from most list c
behind app from most list old c changes is positive same least most_of made end =
    let first : old.first ≡ from = ap (λ (x : ACopy). x.first) is in
    let one : length old.changes ≡ 1 = ap (λ (x : ACopy). length x.changes) is in
    record {
      begins = same ∙ first;
      some = omega (arith, same, first, one, least);
      few = omega (arith, one, most_of, positive);
      are = made;
      ends = λ less. end (omega (arith, less, one, positive));
    }

-- what a span of them changed
pub batches : (c : ACopy) (m : MachineState) (from count : ℕ) (r : Result Batch Mem) → AreCopiedOf c m → c.first ≤ from → from + count ≤ next_of c → IfOk r (λ b. b ≡ record { from = from; count = count; changes = changes_in c from count })
    → IfOk r (λ b. b ≡ batch_of m from count)
batches c m from count r are first next is = subst (λ (cs : List Change). IfOk r (λ b. b ≡ record { from = from; count = count; changes = cs })) (copied_changes c m are from count first next) is

pub batches_of : (app : App) (list : List Entry) (c : ACopy) (from count : ℕ) (r : Result Batch Mem) → AreCopiedOf c (over app list) → from + count ≤ next_of c → IfOk r (λ b. b ≡ batch_of (over app list) from count) → IfOk r (IsBatchOf app list from count)
batches_of app list c from count (Ok batch) are next is =
    let all = within_of (programs app) list c.first c.changes are in
    let first : batch.from ≡ from = ap (λ (b : Batch). b.from) is in
    let many : batch.count ≡ count = ap (λ (b : Batch). b.count) is in
    record {
      begins = first;
      counts = many;
      within = omega (arith, next, all, first, many);
      made = subst (λ (b : Batch). b.changes ≡ changes_between (programs app) list b.from b.count) (sym is) refl;
    }
batches_of app list c from count (Err e) are next is = tt
