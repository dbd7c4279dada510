-- What a source tells of entries, as it begins anew, has its first entry dropped and gets one more.
use Rattle.std.specs.Prelude.{◌≡◌, ℕ, suc, ◌+◌, ◌-◌, ◌≤◌, ◌<◌, Bool, true, false, List, [], ◌∷◌, ◌++◌, map, length, take, drop, nat_le, nat_lt, if◌then◌else◌, Option, Some, IfSome, ◌&&◌, ◌||◌, ◌==◌, Result, Ok, Err, OnOk, OnErr, refl}
use Rattle.std.proofs.Common.{ap, sym, subst, ◌∙◌, arith, ⊎_elim, true≢false}
use Rattle.std.proofs.lemmas.List.{length-append, length-map}
use Rattle.std.proofs.lemmas.Bool.{eqb-true, leb-true, ltb-true}
use Rattle.std.proofs.lemmas.Bool.Decides.{leb_tells}
use Rattle.map_model.specs.Maps.{IsSorted}
use Rattle.map_model.specs.Changes.{Leads}
use Rattle.ejson_value.specs.declared.change.Change.{Change}
use Rattle.ejson_value.specs.Key.{key_cmp}
use Rattle.ejson_value.specs.Changes.{changes_of}
use Rattle.history_model.specs.History.{changes_between}
use Rattle.history_model.specs.HistoryLaws.{between_leads, sorted_held}
use Rattle.publication.specs.Cursors.{ACursors}
use Rattle.publication.specs.Published.{published}
use Rattle.live_observer.specs.Observing.{IsDifference}
use Rattle.store_machine.specs.State.{MachineState, programs, held_after}
use Rattle.multiplexer.specs.Leading.{News, AreDifferences}
use Rattle.multiplexer.specs.LeadingLaws.{differ_with}
use Rattle.multiplexer.specs.Telling.{AnEntry, ASpan, ASource, news_in, documents_of, AreKnownFrom, IsSpan}
use Rattle.multiplexer.specs.Known.{AreKnown}
use Rattle.multiplexer.specs.Origins.{AreTaught}
use Rattle.multiplexer.proofs.Soles.{known_with_one}
use Rattle.multiplexer.specs.Bounds.{max_entries}
use Rattle.multiplexer.specs.Sources.{next_of, reached, without_first, trimmed, with_one, with_last, without_last, IsToldBy, IsAlike}

-- ---- one after another

pub next_trimmed : (s : ASource) → next_of (trimmed s) ≡ next_of s
next_trimmed s =
    elim (nat_le max_entries (length s.ones)) as (λ b. nat_le max_entries (length s.ones) ≡ b → next_of (if b then without_first s else s) ≡ next_of s) [
      | true ↦ λ full. shifted s.ones full
      | false ↦ λ _. refl
    ] refl
  where
    shifted : (ones : List AnEntry) → nat_le max_entries (length ones) ≡ true → (s.first + 1) + length (drop 1 ones) ≡ s.first + length ones
    shifted [] full = cc full
    shifted (one ∷ ones) full = omega arith

pub next_with : (s : ASource) (one : AnEntry) → next_of (with_one s one) ≡ next_of s + 1
next_with s one = omega (arith, length-append s.ones (one ∷ []))

abbrev anew : ASource → ℕ → ASource
anew s from = record s { first = from; ones = [] }

-- whether it begins anew
abbrev is_far : ASource → ℕ → ℕ → Bool
is_far s begins from = nat_lt (next_of s) begins || nat_le max_entries (from - next_of s)

by_far : (s : ASource) (begins from : ℕ) (P : ASource → Type 0) → (is_far s begins from ≡ true → P (anew s from)) → (is_far s begins from ≡ false → P s) → P (reached s begins from)
by_far s begins from P far near = elim (is_far s begins from) as (λ b. is_far s begins from ≡ b → P (if b then anew s from else s)) [ true ↦ far | false ↦ near ] refl

far_on : (a b : Bool) (X : Type 0) → (a ≡ true → X) → (b ≡ true → X) → (a || b) ≡ true → X
far_on true b X x y e = x refl
far_on false b X x y e = y e

near_on : (a b : Bool) → (a || b) ≡ false → (a ≡ false) × (b ≡ false)
near_on true b e = cc e
near_on false b e = (refl, e)

far_behind : (s : ASource) (begins from : ℕ) → begins ≤ from → is_far s begins from ≡ true → next_of s ≤ from
far_behind s begins from order far =
    far_on (nat_lt (next_of s) begins) (nat_le max_entries (from - next_of s)) (next_of s ≤ from) (λ less. omega (arith, ltb-true (next_of s) begins less, order)) (λ more. omega (arith, leb-true max_entries (from - next_of s) more)) far

near_there : (s : ASource) (begins from : ℕ) → is_far s begins from ≡ false → begins ≤ next_of s
near_there s begins from near =
    let not_less = (near_on (nat_lt (next_of s) begins) (nat_le max_entries (from - next_of s)) near).0 in
    ⊎_elim (λ both. absurd (true≢false (sym both.0 ∙ not_less))) (λ both. let le : begins ≤ next_of s = omega (arith, both.1) in le) (leb_tells (suc (next_of s)) begins)

pub alike_reached : (s : ASource) (begins from : ℕ) → IsAlike s (reached s begins from)
alike_reached s begins from = by_far s begins from (IsAlike s) (λ _. record { name = refl; params = refl }) (λ _. record { name = refl; params = refl })

-- it goes on from a place that is no earlier
pub next_reached : (s : ASource) (begins from : ℕ) → begins ≤ from → next_of s ≤ next_of (reached s begins from)
next_reached s begins from order = by_far s begins from (λ t. next_of s ≤ next_of t) (λ far. omega (arith, far_behind s begins from order far)) (λ _. omega arith)

-- and at which it can be asked for entries
pub begins_reached : (s : ASource) (begins from : ℕ) → begins ≤ from → begins ≤ next_of (reached s begins from)
begins_reached s begins from order = by_far s begins from (λ t. begins ≤ next_of t) (λ _. omega (arith, order)) (near_there s begins from)

pub first_reached : (s : ASource) (begins from : ℕ) → s.first ≤ from → (reached s begins from).first ≤ from
first_reached s begins from le = by_far s begins from (λ t. t.first ≤ from) (λ _. omega arith) (λ _. le)

pub alike_trimmed : (s : ASource) → IsAlike s (trimmed s)
alike_trimmed s =
    elim (nat_le max_entries (length s.ones)) as (λ b. IsAlike s (if b then without_first s else s)) [ true ↦ record { name = refl; params = refl } | false ↦ record { name = refl; params = refl } ]

pub alike_then : (a b c : ASource) → IsAlike a b → IsAlike b c → IsAlike a c
alike_then a b c p q = record { name = q.name ∙ p.name; params = q.params ∙ p.params }

-- ---- told

module _ (cursors : ACursors) (m : MachineState) where
  pub told_reached : (s : ASource) (begins from : ℕ) → from ≤ length m.history → IsToldBy cursors m s → IsToldBy cursors m (reached s begins from)
  told_reached s begins from within told = by_far s begins from (IsToldBy cursors m) (λ _. record { within = omega (arith, within); each = tt; known = tt; last = told.last }) (λ _. told)

  -- the first entry goes, where there is one
  pub told_without_first : (s : ASource) → 0 < length s.ones → IsToldBy cursors m s → IsToldBy cursors m (without_first s)
  told_without_first s some told = let d = dropped s.first s.ones some told.within told.each told.known in record { within = d.0; each = d.1; known = d.2; last = told.last }
    where
      dropped : (first : ℕ) (ones : List AnEntry) → 0 < length ones → first + length ones ≤ length m.history → AreDifferences cursors (documents_of (programs m.app) m.history) first (map news_in ones) →
          AreKnownFrom cursors (documents_of (programs m.app) m.history) first ones →
          ((first + 1) + length (drop 1 ones) ≤ length m.history) × AreDifferences cursors (documents_of (programs m.app) m.history) (first + 1) (map news_in (drop 1 ones)) × AreKnownFrom cursors (documents_of (programs m.app) m.history) (first + 1) (drop 1 ones)
      dropped first [] some within each known = absurd (omega (arith, some))
      dropped first (one ∷ ones) some within each known =
          let next : suc first ≡ first + 1 = omega arith in
          (omega (arith, within), subst (λ n. AreDifferences cursors (documents_of (programs m.app) m.history) n (map news_in ones)) next each.1, subst (λ n. AreKnownFrom cursors (documents_of (programs m.app) m.history) n ones) next known.1)

  pub told_trimmed : (s : ASource) → IsToldBy cursors m s → IsToldBy cursors m (trimmed s)
  told_trimmed s told =
      elim (nat_le max_entries (length s.ones)) as (λ b. nat_le max_entries (length s.ones) ≡ b → IsToldBy cursors m (if b then without_first s else s)) [
        | true ↦ λ full. told_without_first s (let more = leb-true max_entries (length s.ones) full in omega (arith, more)) told
        | false ↦ λ _. told
      ] refl

  pub told_with : (s : ASource) (one : AnEntry) → next_of s < length m.history → IsDifference (published cursors (held_after m (next_of s)).rows) (published cursors (held_after m (next_of s + 1)).rows) (news_in one) → AreKnown (published cursors (held_after m (next_of s)).rows) (news_in one) one.texts →
      IsToldBy cursors m s → IsToldBy cursors m (with_one s one)
  told_with s one within differs known told = let next : next_of s + 1 ≡ suc (next_of s) = omega arith in record {
    within = omega (arith, within, length-append s.ones (one ∷ []));
    each = subst (AreDifferences cursors (documents_of (programs m.app) m.history) s.first) (sym (map_behind s.ones))
        (differ_with cursors (documents_of (programs m.app) m.history) s.first (map news_in s.ones) (news_in one) told.each
        (subst (λ n. IsDifference (published cursors (documents_of (programs m.app) m.history n)) (published cursors (documents_of (programs m.app) m.history (suc n))) (news_in one)) (ap (λ n. s.first + n) (sym (length-map s.ones news_in)))
        (subst (λ n. IsDifference (published cursors (documents_of (programs m.app) m.history (next_of s))) (published cursors (documents_of (programs m.app) m.history n)) (news_in one)) next differs)));
    known = known_with_one cursors (documents_of (programs m.app) m.history) s.first s.ones one told.known known;
    last = told.last;
  }
    where
      map_behind : (ones : List AnEntry) → map news_in (ones ++ one ∷ []) ≡ map news_in ones ++ news_in one ∷ []
      map_behind [] = refl
      map_behind (first ∷ ones) = ap (λ (rest : List News). news_in first ∷ rest) (map_behind ones)

  -- one entry more is kept, or there was no memory for it
  pub told_kept : {T E : Type 0} (result : Result T E) (s new : ASource) (one : AnEntry) → OnOk result (new ≡ with_one (trimmed s) one) → OnErr result (new ≡ trimmed s) → next_of s < length m.history →
      IsDifference (published cursors (held_after m (next_of s)).rows) (published cursors (held_after m (next_of s + 1)).rows) (news_in one) → AreKnown (published cursors (held_after m (next_of s)).rows) (news_in one) one.texts → IsToldBy cursors m s → IsToldBy cursors m new
  told_kept (Ok x) s new one ok err within differs known told =
      let same : next_of s ≡ next_of (trimmed s) = sym (next_trimmed s) in
      subst (IsToldBy cursors m) (sym ok)
      (told_with (trimmed s) one (subst (λ n. n < length m.history) same within)
      (subst (λ n. IsDifference (published cursors (held_after m n).rows) (published cursors (held_after m (n + 1)).rows) (news_in one)) same differs) (subst (λ n. AreKnown (published cursors (held_after m n).rows) (news_in one) one.texts) same known) (told_trimmed s told))
  told_kept (Err e) s new one ok err within differs known told = subst (IsToldBy cursors m) (sym err) (told_trimmed s told)

  -- the entries have other texts
  pub told_taught : (s : ASource) (ones : List AnEntry) → length ones ≡ length s.ones → AreTaught cursors (documents_of (programs m.app) m.history) s.first ones → IsToldBy cursors m s → IsToldBy cursors m (record s { ones = ones })
  told_taught s ones many taught told = record { within = omega (arith, many, told.within); each = taught.each; known = taught.known; last = told.last }

  -- a span is kept, or none
  pub told_last : (s : ASource) (span : ASpan) → IsSpan cursors (programs m.app) m.history span → IsToldBy cursors m s → IsToldBy cursors m (with_last s span)
  told_last s span is told = record { within = told.within; each = told.each; known = told.known; last = is }

  pub told_without : (s : ASource) → IsToldBy cursors m s → IsToldBy cursors m (without_last s)
  told_without s told = record { within = told.within; each = told.each; known = told.known; last = tt }

  -- the span that is kept
  pub told_known : (s : ASource) (span : ASpan) → s.last ≡ Some span → IsToldBy cursors m s → IsSpan cursors (programs m.app) m.history span
  told_known s span is told = subst (λ (o : Option ASpan). IfSome o (IsSpan cursors (programs m.app) m.history)) is told.last

  -- the changes of entries lead from their place to the one behind them
  pub entries_lead : (place count : ℕ) (changes : List Change) → changes ≡ changes_between (programs m.app) m.history place count → Leads key_cmp (changes_of changes) (held_after m place).rows (held_after m (place + count)).rows
  entries_lead place count changes is = subst (λ (cs : List Change). Leads key_cmp (changes_of cs) (held_after m place).rows (held_after m (place + count)).rows) (sym is) (between_leads (programs m.app) m.history place count)

  pub documents_by_key : (place : ℕ) → IsSorted key_cmp (held_after m place).rows
  documents_by_key place = sorted_held (programs m.app) (take place m.history)

-- the places of a span
pub places_are : (a b from until : ℕ) → (a == from && b == until) ≡ true → (a ≡ from) × (b ≡ until)
places_are a b from until test = let both = both_true (a == from) (b == until) test in (eqb-true a from both.0, eqb-true b until both.1)
  where
    both_true : (a b : Bool) → (a && b) ≡ true → (a ≡ true) × (b ≡ true)
    both_true true b e = (refl, e)
    both_true false b e = cc e
