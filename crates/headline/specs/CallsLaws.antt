-- Laws: What a client knows of its session and its calls is what the messages that it took say.
use Rattle.std.specs.Prelude.{◌≡◌, ℕ, zero, suc, ◌+◌, ◌<◌, List, [], ◌∷◌, ◌++◌, length, decimal, slice_get, Bool, true, false, cond, not, ◌&&◌, ◌||◌}
use Rattle.std.specs.Prelude.{Option, Some, None, is_some, option_and_then, refl}
use Rattle.std.specs.Ordering.{nat_cmp, eq_by_cmp}
use Rattle.std.proofs.Common.{ap, sym, subst, ◌∙◌, arith}
use Rattle.std.proofs.lemmas.Fmt.{decimal_injective}
use Rattle.map_model.specs.MapLaws.{key_is, eq_by_cmp-self}
use Rattle.value_model.specs.Val.{Val}
use Rattle.value_model.specs.Size.{is_name}
use Rattle.ejson_value.specs.declared.fault.Fault.{Fault}
use Rattle.ejson_codec.specs.WrittenLaws.{name_is}
use Rattle.std.proofs.lemmas.Slice.Eq.{bytes_eq-Decides}
use Rattle.view_model.specs.PendingLaws.{number_order}
use Rattle.ddp_messages.specs.ServerMessage.{ServerMessage}
use Rattle.ddp_messages.specs.ServerMessage as server
use Rattle.client_model.specs.Client.{Call, Client}
use Rattle.client_model.specs.Taking.{number_of, call_at, call_of, result_refusal, early_refusal, late_refusal, awaits_update, updated_refusal}
use Rattle.client_model.specs.Taking.{call_changed, number_changed, all_changed, outcome_by, with_outcome, with_update, calls_in}
use Rattle.client_model.specs.CallLaws.{others_stay}
use Rattle.world_invariant_laws.specs.session_model.Counting.{one_if, result_in, updated_in, results, updateds}
use Rattle.world_invariant_laws.specs.session_journal_laws.CountsLaws.{total-append}
use Rattle.headline.specs.Fitting.{IsPlain}
use Rattle.headline.specs.Calls.{AreCounted, IsNumber, has_outcome, has_update, many, numbers_by}

-- ---- numbers

pub number_is : (count : ℕ) (id : List ℕ) (n : ℕ) → number_of count id ≡ Some n → IsNumber id n count
number_is zero id n e = cc e
number_is (suc c) id n e =
    let rest = number_is c id n in
    elim (is_name id (decimal (suc c))) as (λ b. is_name id (decimal (suc c)) ≡ b → cond b (Some (suc c)) (number_of c id) ≡ Some n → IsNumber id n (suc c)) [
      | true ↦ λ t f.
          let same : suc c ≡ n = cc f in
          record { is = name_is id (decimal (suc c)) t ∙ ap decimal same; within = omega (arith, same) }
      | false ↦ λ t f. let r = rest f in record { is = r.is; within = omega (arith, r.within) }
    ] refl e

-- ---- one call is changed

changed_here : (place : ℕ) (f : Call → Call) (calls : List Call) (call : Call) → slice_get calls place ≡ Some call →
    slice_get (call_changed place f calls) place ≡ Some (f call)
changed_here place f [] call e = cc e
changed_here zero f (x ∷ calls) call e = let same : x ≡ call = cc e in ap (λ y. Some (f y)) same
changed_here (suc place) f (x ∷ calls) call e = changed_here place f calls call e

number_here : (n : ℕ) (f : Call → Call) (calls : List Call) (call : Call) → call_at calls n ≡ Some call → call_at (number_changed n f calls) n ≡ Some (f call)
number_here zero f calls call e = cc e
number_here (suc n) f calls call e = changed_here n f calls call e

-- a change that leaves what is counted
module _ (g : Option Call → ℕ) (f : Call → Call) (keeps : (call : Call) → g (Some (f call)) ≡ g (Some call)) where
  place_keeps : (place : ℕ) (calls : List Call) (i : ℕ) → g (slice_get (call_changed place f calls) i) ≡ g (slice_get calls i)
  place_keeps place [] i = refl
  place_keeps zero (call ∷ calls) zero = keeps call
  place_keeps zero (call ∷ calls) (suc i) = refl
  place_keeps (suc place) (call ∷ calls) zero = refl
  place_keeps (suc place) (call ∷ calls) (suc i) = place_keeps place calls i

  number_keeps : (m : ℕ) (calls : List Call) (n : ℕ) → g (call_at (number_changed m f calls) n) ≡ g (call_at calls n)
  number_keeps zero calls n = refl
  number_keeps (suc m) calls zero = refl
  number_keeps (suc m) calls (suc n) = place_keeps m calls n

  all_keep : (ns : List ℕ) (calls : List Call) (n : ℕ) → g (call_at (all_changed ns f calls) n) ≡ g (call_at calls n)
  all_keep [] calls n = refl
  all_keep (m ∷ ns) calls n = all_keep ns (number_changed m f calls) n ∙ number_keeps m calls n

-- ---- what was told

pub name_self : (a b : List ℕ) → a ≡ b → is_name a b ≡ true
name_self a b e = (bytes_eq-Decides a b).1 e

-- a mark on one call
marked : (g : Option Call → ℕ) (f : Call → Call) (calls : List Call) (id : List ℕ) (n0 n : ℕ) (call : Call) → call_at calls n0 ≡ Some call →
    g (Some call) ≡ 0 → g (Some (f call)) ≡ 1 → id ≡ decimal n0 → n0 < many → n < many →
    g (call_at (all_changed (n0 ∷ []) f calls) n) ≡ g (call_at calls n) + one_if (is_name (decimal n) id)
marked g f calls id n0 n call there before after is small less =
    elim (eq_by_cmp nat_cmp n n0) as
    (λ b. eq_by_cmp nat_cmp n n0 ≡ b → g (call_at (all_changed (n0 ∷ []) f calls) n) ≡ g (call_at calls n) + one_if (is_name (decimal n) id)) [
      | true ↦ λ t.
          let same : n ≡ n0 = key_is number_order n n0 t in
          let old : g (call_at calls n) ≡ 0 = ap (λ k. g (call_at calls k)) same ∙ (ap g there ∙ before) in
          let new : g (call_at (number_changed n0 f calls) n) ≡ 1 = ap (λ k. g (call_at (number_changed n0 f calls) k)) same
          ∙ (ap g (number_here n0 f calls call there) ∙ after) in
          let one : one_if (is_name (decimal n) id) ≡ 1 = ap one_if (name_self (decimal n) id (ap decimal same ∙ sym is)) in
          omega (arith, old, new, one)
      | false ↦ λ t.
          let stays : g (call_at (all_changed (n0 ∷ []) f calls) n) ≡ g (call_at calls n) = ap g (others_stay f (n0 ∷ []) calls n (ap (λ b. b || false) t)) in
          let none : one_if (is_name (decimal n) id) ≡ 0 = ap one_if (other (is_name (decimal n) id) refl t) in
          omega (arith, stays, none)
    ] refl
  where
    other : (b : Bool) → is_name (decimal n) id ≡ b → eq_by_cmp nat_cmp n n0 ≡ false → b ≡ false
    other false e t = refl
    other true e t =
        let same : n ≡ n0 = decimal_injective n n0 less small (name_is (decimal n) id e ∙ is) in
        let differ : true ≡ false = sym (eq_by_cmp-self number_order n0) ∙ (ap (λ k. eq_by_cmp nat_cmp k n0) (sym same) ∙ t) in cc differ

changed_length : (place : ℕ) (f : Call → Call) (calls : List Call) → length (call_changed place f calls) ≡ length calls
changed_length place f [] = refl
changed_length zero f (call ∷ calls) = refl
changed_length (suc place) f (call ∷ calls) = ap suc (changed_length place f calls)

number_length : (n : ℕ) (f : Call → Call) (calls : List Call) → length (number_changed n f calls) ≡ length calls
number_length zero f calls = refl
number_length (suc n) f calls = changed_length n f calls

one_result : (id : List ℕ) (ms : List ServerMessage) (m : ServerMessage) → results id (ms ++ m ∷ []) ≡ results id ms + result_in id m
one_result id ms m = omega (arith, total-append (result_in id) ms (m ∷ []))

one_updated : (id : List ℕ) (ms : List ServerMessage) (m : ServerMessage) → updateds id (ms ++ m ∷ []) ≡ updateds id ms + updated_in id m
one_updated id ms m = omega (arith, total-append (updated_in id) ms (m ∷ []))

-- a `result` of a call that has none
finished_counted : (calls : List Call) (ms : List ServerMessage) (id : List ℕ) (fault : Option Fault) (value : Option Val) (o : Option ℕ) →
    number_of (length calls) id ≡ o → result_refusal (option_and_then (call_at calls) o) ≡ None →
    AreCounted calls ms → AreCounted (all_changed (numbers_by o) (with_outcome (outcome_by fault value)) calls) (ms ++ server.finished id fault value ∷ [])
finished_counted calls ms id fault value None e ok k = cc ok
finished_counted calls ms id fault value (Some n0) e ok k = by (call_at calls n0) refl ok
  where
    by : (x : Option Call) → call_at calls n0 ≡ x → result_refusal x ≡ None →
        AreCounted (all_changed (n0 ∷ []) (with_outcome (outcome_by fault value)) calls) (ms ++ server.finished id fault value ∷ [])
    by None there ok = cc ok
    by (Some call) there ok =
        let number = number_is (length calls) id n0 e in
        let before : is_some call.outcome ≡ false = free (is_some call.outcome) ok in
        record {
          few = omega (arith, k.few, number_length n0 (with_outcome (outcome_by fault value)) calls);
          outcomes = λ n less.
              marked has_outcome (with_outcome (outcome_by fault value)) calls id n0 n call there (ap one_if before) refl number.is
              (omega (arith, number.within, k.few)) less
              ∙ (ap (λ x. x + one_if (is_name (decimal n) id)) (k.outcomes n less) ∙ sym (one_result (decimal n) ms (server.finished id fault value)));
          updates = λ n less.
              all_keep has_update (with_outcome (outcome_by fault value)) (λ call. refl) (n0 ∷ []) calls n
              ∙ (k.updates n less ∙ omega (arith, one_updated (decimal n) ms (server.finished id fault value)));
        }
      where
        free : (b : Bool) → cond {A = Option ℕ} b (Some 8) None ≡ None → b ≡ false
        free true e = cc e
        free false e = refl

-- an `updated` of a call that has none
updated_counted : (calls : List Call) (ms : List ServerMessage) (id : List ℕ) (o : Option ℕ) → number_of (length calls) id ≡ o →
    awaits_update (option_and_then (call_at calls) o) ≡ true →
    AreCounted calls ms → AreCounted (all_changed (numbers_by o) with_update calls) (ms ++ server.updated (id ∷ []) ∷ [])
updated_counted calls ms id None e ok k = cc ok
updated_counted calls ms id (Some n0) e ok k = by (call_at calls n0) refl ok
  where
    by : (x : Option Call) → call_at calls n0 ≡ x → awaits_update x ≡ true →
        AreCounted (all_changed (n0 ∷ []) with_update calls) (ms ++ server.updated (id ∷ []) ∷ [])
    by None there ok = cc ok
    by (Some call) there ok =
        let number = number_is (length calls) id n0 e in
        record {
          few = omega (arith, k.few, number_length n0 with_update calls);
          outcomes = λ n less.
              all_keep has_outcome with_update (λ call. refl) (n0 ∷ []) calls n
              ∙ (k.outcomes n less ∙ omega (arith, one_result (decimal n) ms (server.updated (id ∷ []))));
          updates = λ n less.
              marked has_update with_update calls id n0 n call there (ap one_if (free call.is_updated ok)) refl number.is
              (omega (arith, number.within, k.few)) less
              ∙ (ap (λ x. x + one_if (is_name (decimal n) id)) (k.updates n less) ∙ omega (arith, one_updated (decimal n) ms (server.updated (id ∷ []))));
        }
      where
        free : (b : Bool) → not b ≡ true → b ≡ false
        free true e = cc e
        free false e = refl

other_counted : (calls : List Call) (ms : List ServerMessage) (m : ServerMessage) → ((id : List ℕ) → result_in id m ≡ 0) →
    ((id : List ℕ) → updated_in id m ≡ 0) → AreCounted calls ms → AreCounted calls (ms ++ m ∷ [])
other_counted calls ms m r u k = record {
  few = k.few;
  outcomes = λ n less. omega (arith, k.outcomes n less, one_result (decimal n) ms m, r (decimal n));
  updates = λ n less. omega (arith, k.updates n less, one_updated (decimal n) ms m, u (decimal n));
}

-- a client counts each message that it doesn't refuse
pub late_counted : (c : Client) (ms : List ServerMessage) (m : ServerMessage) → late_refusal c m ≡ None → IsPlain m → AreCounted c.calls ms →
    AreCounted (calls_in c.calls m) (ms ++ m ∷ [])
late_counted c ms (server.finished id fault value) ok plain k = finished_counted c.calls ms id fault value (number_of (length c.calls) id) refl ok k
late_counted c ms (server.updated ids) ok plain k =
    subst (λ (xs : List (List ℕ)). AreCounted (calls_in c.calls (server.updated xs)) (ms ++ server.updated xs ∷ [])) (sym plain.1)
    (updated_counted c.calls ms plain.0 (number_of (length c.calls) plain.0) refl
    (awaits (subst (λ (xs : List (List ℕ)). updated_refusal c.calls xs ≡ None) plain.1 ok)) k)
  where
    awaits : updated_refusal c.calls (plain.0 ∷ []) ≡ None → awaits_update (call_of c.calls plain.0) ≡ true
    awaits e = by (awaits_update (call_of c.calls plain.0)) e
      where
        by : (b : Bool) → cond {A = Option ℕ} ((b && true) && true) None (Some 9) ≡ None → b ≡ true
        by true e = refl
        by false e = cc e
late_counted c ms m ok plain k = other_counted c.calls ms m (λ id. refl) (λ id. refl) k

-- the same before `connected`, when no message about calls is taken
pub early_counted : (c : Client) (ms : List ServerMessage) (m : ServerMessage) → early_refusal m ≡ None → AreCounted c.calls ms →
    AreCounted (calls_in c.calls m) (ms ++ m ∷ [])
early_counted c ms (server.finished id fault value) ok k = cc ok
early_counted c ms (server.updated ids) ok k = cc ok
early_counted c ms m ok k = other_counted c.calls ms m (λ id. refl) (λ id. refl) k
