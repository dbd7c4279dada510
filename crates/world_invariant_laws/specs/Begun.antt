-- The calls that stand in a session's journal are those that the history begins, in order; but for the one that blocks, where it was not begun yet.
use Rattle.std.specs.Prelude.{◌≡◌, ℕ, ◌<◌, ◌≤◌, ◌==◌, List, [], ◌∷◌, ◌++◌, length, Bool, true, false, cond, ◌||◌, Option, None, Some, is_some}
use Rattle.std.specs.Prelude.{if◌then◌else◌, refl}
use Rattle.std.specs.List.{list_any}
use Rattle.std.specs.Ordering.{eq_by_cmp}
use Rattle.std.proofs.Common.{ap, ap₂, sym, subst, ◌∙◌, arith, append-nil}
use Rattle.std.proofs.lemmas.List.{append_assoc}
use Rattle.std.proofs.lemmas.List.Folds.{list_any-append}
use Rattle.std.proofs.lemmas.Bool.{eqb-true, eq-eqb}
use Rattle.map_model.specs.MapLaws.{key_is, eq_by_cmp-self}
use Rattle.value_model.specs.Val.{Val}
use Rattle.ejson_value.specs.View.{view}
use Rattle.ddp_messages.specs.ClientMessage.{ClientMessage}
use Rattle.program_steps.specs.declared.outcome.Status.{Status}
use Rattle.app_model.specs.App.{App}
use Rattle.world_model.specs.history_model.declared.entry.Entry.{Entry}
use Rattle.world_model.specs.history_model.declared.entry.Entry.TheVariants as entry
use Rattle.world_model.specs.history_model.History.{run_cmp, status_in, begins}
use Rattle.world_model.specs.history_model.HistoryLaws.{run_order}
use Rattle.world_model.specs.history_model.BegunLaws.{run_where_begun}
use Rattle.world_model.specs.session_model.Items.{Item}
use Rattle.world_model.specs.session_model.Items as item
use Rattle.world_model.specs.session_model.Methods.{Blocking, is_blocked_by, freed}
use Rattle.world_model.specs.session_model.State.{State, started, calling, after, state_of}
use Rattle.world_model.specs.session_model.Moments.{Moment, moment_at}
use Rattle.world_model.specs.session_model.Fits.{IsRefusedAt, CanFollow, Fits}
use Rattle.session_journal_laws.specs.Appending.{state-append}
use Rattle.session_journal_laws.specs.BlockingLaws.{call_number, refused_blocks}
use Rattle.world_model.specs.Store.{programs, held_in, value_of}
use Rattle.world_model.specs.StoreLaws.{view-value_of}
use Rattle.world_model.specs.Acts.{begin_entry}
use Rattle.world_model.specs.Headline.{standing, begun_by, begun_in}
use Rattle.world_invariant_laws.specs.Lift.{is_by}
use Rattle.world_invariant_laws.specs.Standing.{AreBelow, KnowsCalls, is_plain}
use Rattle.world_invariant_laws.specs.StandingLaws.{below_first, standing_below, plain_standing, call_standing, refused_standing, knows_calls}

-- ---- one entry at the end

pub begun_in-append : (n : ℕ) (h : List Entry) (e : Entry) → begun_in n (h ++ e ∷ []) ≡ begun_in n h ++ begun_by n e
begun_in-append n [] e = append-nil (begun_by n e)
begun_in-append n (x ∷ h) e = ap (λ bs. begun_by n x ++ bs) (begun_in-append n h e) ∙ sym (append_assoc (begun_by n x) (begun_in n h) (begun_by n e))

-- an entry of another session begins none of this one's calls
foreign_begun : (n : ℕ) (e : Entry) → is_by n e ≡ false → begun_by n e ≡ []
foreign_begun n (entry.Begin m k method params seed) apart =
    ap (λ b. cond b (record { k = k; method = method; params = params; seed = view seed } ∷ []) []) apart
foreign_begun n (entry.Step m k) apart = refl
foreign_begun n (entry.Admin op) apart = refl

pub foreign_begins : (n k : ℕ) (e : Entry) → is_by n e ≡ false → begins (n, k) e ≡ false
foreign_begins n k (entry.Begin m j method params seed) apart = by (eq_by_cmp run_cmp (n, k) (m, j)) refl
  where
    by : (b : Bool) → eq_by_cmp run_cmp (n, k) (m, j) ≡ b → b ≡ false
    by false e = refl
    by true e =
        let same : (n, k) ≡ (m, j) = key_is run_order (n, k) (m, j) e in
        let one : n ≡ m = ap (λ (x : ℕ × ℕ). x.0) same in
        sym (eq-eqb n m one) ∙ apart
foreign_begins n k (entry.Step m j) apart = refl
foreign_begins n k (entry.Admin op) apart = refl

-- a call that isn't among those that are begun has no run
pub none_begun : (n m k : ℕ) (h : List Entry) → m ≤ k → AreBelow m (begun_in n h) → list_any (begins (n, k)) h ≡ false
none_begun n m k [] le p = refl
none_begun n m k (entry.Step s j ∷ h) le p = none_begun n m k h le p
none_begun n m k (entry.Admin op ∷ h) le p = none_begun n m k h le p
none_begun n m k (entry.Begin s j method params seed ∷ h) le p =
    elim (n == s) as
    (λ b. n == s ≡ b → AreBelow m ((if b then record { k = j; method = method; params = params; seed = view seed } ∷ [] else []) ++ begun_in n h) →
    (eq_by_cmp run_cmp (n, k) (s, j) || list_any (begins (n, k)) h) ≡ false) [
      | true ↦ λ is q. ap₂ (λ a b. a || b) (apart (eq_by_cmp run_cmp (n, k) (s, j)) refl q.0) (none_begun n m k h le q.1)
      | false ↦ λ is q. ap₂ (λ a b. a || b) (foreign_begins n k (entry.Begin s j method params seed) is) (none_begun n m k h le q)
    ] refl p
  where
    apart : (b : Bool) → eq_by_cmp run_cmp (n, k) (s, j) ≡ b → j < m → b ≡ false
    apart false e less = refl
    apart true e less =
        let same : (n, k) ≡ (s, j) = key_is run_order (n, k) (s, j) e in
        absurd (omega (arith, ap (λ (x : ℕ × ℕ). x.1) same, less, le))

-- the same last call on both sides
pub cancel : (xs ys : List Blocking) (b : Blocking) → xs ++ b ∷ [] ≡ ys ++ b ∷ [] → xs ≡ ys
cancel [] [] b e = refl
cancel [] (y ∷ []) b e = cc e
cancel [] (y ∷ z ∷ ys) b e = cc e
cancel (x ∷ []) [] b e = cc e
cancel (x ∷ z ∷ xs) [] b e = cc e
cancel (x ∷ xs) (y ∷ ys) b e =
    let first : x ≡ y = cc e in
    let rest : xs ++ b ∷ [] ≡ ys ++ b ∷ [] = cc e in
    ap₂ (λ z zs. z ∷ zs) first (cancel xs ys b rest)

-- ---- the one that is still to begin

abbrev pub Runs : Type 0
Runs = ℕ → Option Status

-- the call that blocks, where it has no run
abbrev pub unrun : Runs → Option Blocking → List Blocking
unrun run None = []
unrun run (Some b) = if is_some (run b.k) then [] else b ∷ []

unrun_same : (run later : Runs) (o : Option Blocking) → ((k : ℕ) → is_some (later k) ≡ is_some (run k)) → unrun later o ≡ unrun run o
unrun_same run later None e = refl
unrun_same run later (Some b) e = ap (λ c. cond c [] (b ∷ [])) (e b.k)

abbrev pub runs_of : App → ℕ → List Entry → Runs
runs_of app number history = λ k. status_in (held_in app history) number k

pub record IsBegun (app : App) (number : ℕ) (history : List Entry) (items : List Item) : Type 0 where
  pub knows : KnowsCalls (state_of items) items
  pub begun : begun_in number history ++ unrun (runs_of app number history) (state_of items).blocking ≡ standing items

module _ (app : App) (number : ℕ) where
  run_is : (history : List Entry) (k : ℕ) → is_some (runs_of app number history k) ≡ list_any (begins (number, k)) history
  run_is history k = run_where_begun (programs app) history number k

  or_none : (b : Bool) → (b || false) ≡ b
  or_none true = refl
  or_none false = refl

  begins-append : (history : List Entry) (e : Entry) (k : ℕ) →
      is_some (runs_of app number (history ++ e ∷ []) k) ≡ (is_some (runs_of app number history k) || begins (number, k) e)
  begins-append history e k =
      run_is (history ++ e ∷ []) k
      ∙ (list_any-append (begins (number, k)) history (e ∷ []) ∙ ap₂ (λ a b. a || b) (sym (run_is history k)) (or_none (begins (number, k) e)))

  -- an entry that begins none of the session's calls
  pub same_begun : (history : List Entry) (items : List Item) (e : Entry) → begun_by number e ≡ [] → ((k : ℕ) → begins (number, k) e ≡ false) →
      IsBegun app number history items → IsBegun app number (history ++ e ∷ []) items
  same_begun history items e none apart p = record {
    knows = p.knows;
    begun =
        ap₂ (λ (a b : List Blocking). a ++ b)
        (begun_in-append number history e ∙ (ap (λ bs. begun_in number history ++ bs) none ∙ append-nil (begun_in number history)))
        (unrun_same (runs_of app number history) (runs_of app number (history ++ e ∷ [])) (state_of items).blocking
        (λ k. begins-append history e k ∙ (ap (λ b. is_some (runs_of app number history k) || b) (apart k) ∙ or_none (is_some (runs_of app number history k)))))
        ∙ p.begun;
  }

  pub foreign_kept : (history : List Entry) (items : List Item) (e : Entry) → is_by number e ≡ false → IsBegun app number history items →
      IsBegun app number (history ++ e ∷ []) items
  foreign_kept history items e apart p = same_begun history items e (foreign_begun number e apart) (λ k. foreign_begins number k e apart) p

  -- the call that blocks is begun
  pub begin_kept : (history : List Entry) (items : List Item) (b : Blocking) → (state_of items).blocking ≡ Some b →
      is_some (runs_of app number history b.k) ≡ false → IsBegun app number history items →
      IsBegun app number (history ++ begin_entry number b ∷ []) items
  begin_kept history items b blocks none p =
      let e = begin_entry number b in
      let one : begun_by number e ≡ b ∷ [] =
      ap (λ (c : Bool). cond c (record { k = b.k; method = b.method; params = b.params; seed = view (value_of b.seed) } ∷ []) []) (eq-eqb number number refl)
      ∙ ap (λ (v : Val). let x : Blocking = record { k = b.k; method = b.method; params = b.params; seed = v } in x ∷ []) (view-value_of b.seed) in
      let now : is_some (runs_of app number (history ++ e ∷ []) b.k) ≡ true =
      begins-append history e b.k ∙ ap₂ (λ (x y : Bool). x || y) none (eq_by_cmp-self run_order (number, b.k)) in
      record {
        knows = p.knows;
        begun =
            ap₂ (λ (x y : List Blocking). x ++ y) (begun_in-append number history e ∙ ap (λ bs. begun_in number history ++ bs) one)
            (ap (unrun (runs_of app number (history ++ e ∷ []))) blocks ∙ ap (λ c. cond c [] (b ∷ [])) now)
            ∙ (append-nil (begun_in number history ++ b ∷ [])
            ∙ (ap (λ bs. begun_in number history ++ bs) (sym (ap (unrun (runs_of app number history)) blocks ∙ ap (λ c. cond c [] (b ∷ [])) none)) ∙ p.begun));
      }

  -- a call that stands has a lesser number than the next one, and so has each that is begun
  pub next_unrun : (history : List Entry) (items : List Item) (k : ℕ) → length (state_of items).methods ≤ k → IsBegun app number history items →
      is_some (runs_of app number history k) ≡ false
  next_unrun history items k le p =
      run_is history k
      ∙ none_begun number (length (state_of items).methods) k history le
      (below_first (length (state_of items).methods) (begun_in number history) (unrun (runs_of app number history) (state_of items).blocking)
      (subst (AreBelow (length (state_of items).methods)) (sym p.begun) (standing_below (state_of items) items p.knows)))

  -- ---- one item more

  -- what an item says of runs: a call that lets go of the next message has a run, and one that is refused has none
  abbrev pub IsOfRuns : Runs → Item → Type 0
  IsOfRuns run (item.refused k place) = is_some (run k) ≡ false
  IsOfRuns run (item.unblocked k) = is_some (run k) ≡ true
  IsOfRuns run (item.finished k place) = is_some (run k) ≡ true
  IsOfRuns run i = Unit {0}

  freed_unrun : (run : Runs) (k : ℕ) (o : Option Blocking) → is_some (run k) ≡ true → unrun run (freed k o) ≡ unrun run o
  freed_unrun run k None has = refl
  freed_unrun run k (Some b) has =
      elim (k == b.k) as (λ c. k == b.k ≡ c → unrun run (cond c None (Some b)) ≡ cond (is_some (run b.k)) [] (b ∷ [])) [
        | true ↦ λ is. sym (ap (λ c. cond c [] (b ∷ [])) (ap (λ n. is_some (run n)) (sym (eqb-true k b.k is)) ∙ has))
        | false ↦ λ is. refl
      ] refl

  refused_begun : (C : List Moment) (history : List Entry) (items : List Item) (k place : ℕ) →
      IsRefusedAt (moment_at C place) k (state_of items).blocking → is_some (runs_of app number history k) ≡ false → IsBegun app number history items →
      begun_in number history ++ unrun (runs_of app number history) (after (state_of items) (item.refused k place)).blocking ≡ standing
      (items ++ item.refused k place ∷ [])
  refused_begun C history items k place r none p = by (state_of items).blocking refl (refused_blocks (moment_at C place) k (state_of items).blocking r)
    where
      by : (o : Option Blocking) → (state_of items).blocking ≡ o → is_blocked_by k o ≡ true →
          begun_in number history ++ unrun (runs_of app number history) (freed k (state_of items).blocking) ≡ standing (items ++ item.refused k place ∷ [])
      by None e t = cc t
      by (Some b) e t =
          let same : k ≡ b.k = eqb-true k b.k t in
          let free : freed k (state_of items).blocking ≡ None = ap (freed k) e ∙ ap (λ c. cond c None (Some b)) t in
          let own : unrun (runs_of app number history) (state_of items).blocking ≡ b ∷ [] = ap (unrun (runs_of app number history)) e
          ∙ ap (λ c. cond c [] (b ∷ [])) (ap (λ n. is_some (runs_of app number history n)) (sym same) ∙ none) in
          let last = refused_standing items place b (p.knows.last b e) in
          ap (λ o. begun_in number history ++ unrun (runs_of app number history) o) free
          ∙ (append-nil (begun_in number history)
          ∙ (cancel (begun_in number history) (standing (items ++ item.refused b.k place ∷ [])) b
          (ap (λ bs. begun_in number history ++ bs) (sym own) ∙ (p.begun ∙ last))
          ∙ ap (λ n. standing (items ++ item.refused n place ∷ [])) (sym same)))

  call_begun : (C : List Moment) (history : List Entry) (items : List Item) (k : ℕ) (message : ClientMessage) (seed : Val) →
      CanFollow app number C (state_of items) (item.call k message seed) → IsBegun app number history items →
      begun_in number history ++ unrun (runs_of app number history) (Some (calling k message seed)) ≡ standing (items ++ item.call k message seed ∷ [])
  call_begun C history items k message seed f p =
      let next : k ≡ length (state_of items).methods = call_number app number (state_of items) message k message seed f.made in
      let none : is_some (runs_of app number history k) ≡ false = next_unrun history items k (omega (arith, next)) p in
      let before : begun_in number history ≡ standing items =
      sym (append-nil (begun_in number history)) ∙ (ap (λ o. begun_in number history ++ unrun (runs_of app number history) o) (sym f.free) ∙ p.begun) in
      ap (λ c. begun_in number history ++ cond c [] (calling k message seed ∷ [])) none
      ∙ (ap (λ bs. bs ++ calling k message seed ∷ []) before ∙ sym (call_standing (state_of items) items k message seed p.knows next))

  plain_begun : (history : List Entry) (items : List Item) (i : Item) → is_plain i ≡ true →
      unrun (runs_of app number history) (after (state_of items) i).blocking ≡ unrun (runs_of app number history) (state_of items).blocking →
      IsBegun app number history items →
      begun_in number history ++ unrun (runs_of app number history) (after (state_of items) i).blocking ≡ standing (items ++ i ∷ [])
  plain_begun history items i plain same p = ap (λ bs. begun_in number history ++ bs) same ∙ (p.begun ∙ sym (plain_standing items i plain))

  item_begun : (C : List Moment) (history : List Entry) (items : List Item) (i : Item) → CanFollow app number C (state_of items) i →
      IsOfRuns (runs_of app number history) i → IsBegun app number history items →
      begun_in number history ++ unrun (runs_of app number history) (after (state_of items) i).blocking ≡ standing (items ++ i ∷ [])
  item_begun C history items (item.call k message seed) f r p = call_begun C history items k message seed f p
  item_begun C history items (item.refused k place) f r p = refused_begun C history items k place f r p
  item_begun C history items (item.unblocked k) f r p =
      plain_begun history items (item.unblocked k) refl (freed_unrun (runs_of app number history) k (state_of items).blocking r) p
  item_begun C history items (item.finished k place) f r p =
      plain_begun history items (item.finished k place) refl (freed_unrun (runs_of app number history) k (state_of items).blocking r) p
  item_begun C history items item.connect f r p = plain_begun history items item.connect refl refl p
  item_begun C history items item.fail f r p = plain_begun history items item.fail refl refl p
  item_begun C history items (item.ping id) f r p = plain_begun history items (item.ping id) refl refl p
  item_begun C history items item.pong f r p = plain_begun history items item.pong refl refl p
  item_begun C history items (item.bad reason offending) f r p = plain_begun history items (item.bad reason offending) refl refl p
  item_begun C history items (item.subscribe s message cursors) f r p = plain_begun history items (item.subscribe s message cursors) refl refl p
  item_begun C history items (item.same message) f r p = plain_begun history items (item.same message) refl refl p
  item_begun C history items (item.nosub message fault) f r p = plain_begun history items (item.nosub message fault) refl refl p
  item_begun C history items (item.close s message) f r p = plain_begun history items (item.close s message) refl refl p
  item_begun C history items (item.unknown message) f r p = plain_begun history items (item.unknown message) refl refl p
  item_begun C history items (item.load s place) f r p = plain_begun history items (item.load s place) refl refl p
  item_begun C history items (item.advance s count) f r p = plain_begun history items (item.advance s count) refl refl p

  pub item_kept : (C : List Moment) (history : List Entry) (items : List Item) (i : Item) → Fits app number C (items ++ i ∷ []) →
      CanFollow app number C (state_of items) i → IsOfRuns (runs_of app number history) i →
      IsBegun app number history items → IsBegun app number history (items ++ i ∷ [])
  item_kept C history items i fits f r p = record {
    knows = knows_calls app number C (items ++ i ∷ []) fits;
    begun = ap (λ (st : State). begun_in number history ++ unrun (runs_of app number history) st.blocking) (state-append started items i)
        ∙ item_begun C history items i f r p;
  }
