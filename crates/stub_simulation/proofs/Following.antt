-- What a draft keeps from step to step.
use Rattle.std.specs.List.{list_any}
use Rattle.std.specs.Ordering.{eq_by_cmp}
use Rattle.std.specs.Prelude.{map, is_some, ◌||◌, Option, Some, None, option_map}
use Rattle.std.proofs.Common.{◌≡◌, ℕ, ◌+◌, Bool, true, false, true≢false, cond, List, [], ◌∷◌, ◌++◌, length, drop, refl, sym, ap, ap₂, ◌∙◌, subst}
use Rattle.std.proofs.lemmas.List.{map-append}
use Rattle.map_model.specs.Maps.{at, IsSorted}
use Rattle.map_model.specs.MapLaws.{eq_by_cmp-self}
use Rattle.map_model.specs.Changes.{Fit}
use Rattle.value_model.specs.Val.{Val, Entries}
use Rattle.ejson_value.specs.declared.key.Key.{Key}
use Rattle.ejson_value.specs.declared.change.Change.{Change}
use Rattle.ejson_value.specs.Key.{key_cmp, key_order}
use Rattle.ejson_value.specs.Rows.{Rows}
use Rattle.ejson_value.specs.Changes.{changes_of}
use Rattle.collection_store.specs.Limits.{bytes_of, old_bytes, new_bytes}
use Rattle.collection_store.specs.Applied.{after}
use Rattle.program_steps.specs.declared.step.ProgramStep.{ProgramStep}
use Rattle.program_steps.specs.Runs.{Outcome, outcome_view}
use Rattle.program_model.specs.Run.{Run, begun}
use Rattle.program_model.specs.Steps.{Stepped, unchanged, done_step, stepped_by, stepped, further, client_setting}
use Rattle.program_model.specs.StepLaws.{stepped_does}
use Rattle.program_model.specs.RunLaws.{done_step_follows}
use Rattle.program_run.specs.declared.run.Effect.{Effect}
use Rattle.program_run.specs.Progress.{Progress, run_of, left_of}
use Rattle.program_run.specs.Planned.{stepped_as}
use Rattle.stub_simulation.specs.declared.draft.Draft.{Draft}
use Rattle.stub_simulation.specs.declared.fitting.Totals.{Totals}
use Rattle.program_model.specs.Touched.{keys_put, each_once}
use Rattle.stub_simulation.specs.Simulating.{changed_keys, change_at}
use Rattle.stub_simulation.specs.Drafts.{shown, shown_by, IsWithin, IsWindow, old_count, new_count, is_taken, new_ids, AreTotals, IsTaken, IsFollowedIf, IsFollowed, IsLeftBy, IsDraft}
use Rattle.stub_simulation.proofs.Overlay.{sorted_shown, at_shown, none_shown, changed_shown, changed_within, Within}
use Rattle.stub_simulation.proofs.Windows.{Alike, Becomes, totalled, step_becomes, step_made}
use Rattle.stub_simulation.proofs.Stepping.{keys_put-append, append-nil, over_stays, nothing_left, some_mapped}

-- a run that has a step left has come to nothing
none_over : (o : Option Outcome) (left : List ProgramStep) {s : ProgramStep} {rest : List ProgramStep} → left_of o left ≡ s ∷ rest → o ≡ None
none_over None left e = refl
none_over (Some outcome) left e = cc e

abbrev more : Stepped → Stepped → Stepped
more so_far x = record { rows = x.rows; changes = so_far.changes ++ x.changes; touched = so_far.touched ++ x.touched; run = x.run }

-- the stub is over here
pub over_draft : (view : Rows) (params : List Val) (steps : List ProgramStep) (so_far real : Stepped) (run next : Progress) (old : Draft) → IsDraft view params steps so_far run old
    → real.rows ≡ so_far.rows → real.changes ≡ [] → real.touched ≡ [] → real.run.left ≡ [] → IsDraft view params steps (more so_far real) next (record old { is_over = true })
over_draft view params steps so_far real run next old w rows changes touched over = record {
  left = record {
    rows = rows ∙ w.left.rows;
    within = w.left.within;
    changed = w.left.changed ∙ sym (ap (λ cs. each_once (changed_keys cs)) (ap (λ cs. so_far.changes ++ cs) changes ∙ append-nil so_far.changes));
    touched = w.left.touched ∙ sym (ap each_once (ap (λ ks. so_far.touched ++ ks) touched ∙ append-nil so_far.touched));
  };
  documents = w.documents ∙ sym (ap length rows);
  bytes = w.bytes ∙ sym (ap bytes_of rows);
  going = λ e. absurd (true≢false e);
  over = λ e. over;
}

module _ (names : List (List ℕ)) (view : Rows) (params : List Val) (steps : List ProgramStep) (so_far : Stepped) (W left : Rows) (run next : Progress) (s : ProgramStep) (rest : List ProgramStep) (effect : Effect) (old new : Draft)
    (sorted : IsSorted key_cmp view) (sorted_left : IsSorted key_cmp old.left) (goes : old.is_over ≡ false) (w : IsDraft view params steps so_far run old) (first : (run_of steps run).left ≡ s ∷ rest)
    (window : IsWindow params old.made (shown_by view old) s W) (does : stepped (client_setting names) W (run_of steps run) ≡ stepped_as left effect (run_of steps next))
    (told : option_map outcome_view effect.outcome ≡ next.outcome) where
  abbrev r : Run
  r = record (run_of steps run) { left = rest }

  abbrev win : Stepped
  win = done_step (client_setting names) W r s

  abbrev real : Stepped
  real = done_step (client_setting names) so_far.rows r s

  real_is : stepped (client_setting names) so_far.rows so_far.run ≡ real
  real_is = ap (stepped (client_setting names) so_far.rows) (sym (w.going goes).run) ∙ ap (λ l. stepped_by (client_setting names) so_far.rows (run_of steps run) l) first

  win_is : win ≡ stepped_as left effect (run_of steps next)
  win_is = sym (ap (λ l. stepped_by (client_setting names) W (run_of steps run) l) first) ∙ does

  sorted_rows : IsSorted key_cmp so_far.rows
  sorted_rows = subst (IsSorted key_cmp) (sym w.left.rows) (sorted_shown view old.traces.changed old.left sorted)

  is_window : IsWindow r.params r.made so_far.rows s W
  is_window =
      subst (λ (ps : List Val). IsWindow ps run.made so_far.rows s W) (sym (w.going goes).called_with)
      (subst (λ (ids : List (List ℕ)). IsWindow params ids so_far.rows s W) (w.going goes).made (subst (λ (rows : Rows). IsWindow params old.made rows s W) (sym w.left.rows) window))

  same_changes : win.changes ≡ effect.changes
  same_changes = ap (λ (x : Stepped). x.changes) win_is

  module _ (t : Totals) (are : AreTotals old.totals effect.changes t) where
    documents : t.documents + old_count win.changes ≡ length so_far.rows + new_count win.changes
    documents = subst (λ (cs : List Change). t.documents + old_count cs ≡ length so_far.rows + new_count cs) (sym same_changes) (are.documents ∙ ap (λ n. n + new_count effect.changes) w.documents)

    bytes : t.bytes + old_bytes win.changes ≡ bytes_of so_far.rows + new_bytes win.changes
    bytes = subst (λ (cs : List Change). t.bytes + old_bytes cs ≡ bytes_of so_far.rows + new_bytes cs) (sym same_changes) (are.bytes ∙ ap (λ n. n + new_bytes effect.changes) w.bytes)

    becomes : Becomes (is_taken so_far.rows s win.changes t.documents t.bytes) so_far.rows win real
    becomes = step_becomes names so_far.rows W r t.documents t.bytes sorted_rows s is_window documents bytes

    taken_draft : is_taken so_far.rows s win.changes t.documents t.bytes ≡ true → Alike so_far.rows win real → IsTaken s effect t old new → IsDraft view params steps (more so_far real) next new
    taken_draft took alike taken =
        let cs = effect.changes in
        let going = w.going goes in
        let made_changes : real.changes ≡ cs = alike.changes ∙ same_changes in
        let made_touched : real.touched ≡ effect.touched = alike.touched ∙ ap (λ (x : Stepped). x.touched) win_is in
        let made_run : real.run ≡ run_of steps next = alike.run ∙ ap (λ (x : Stepped). x.run) win_is in
        let fit : Fit key_cmp so_far.rows (changes_of win.changes) =
        subst (λ (ds : List Change). Fit key_cmp so_far.rows (changes_of ds)) (ap (λ (x : Stepped). x.changes) real_is ∙ alike.changes) (stepped_does (client_setting names) so_far.rows so_far.run sorted_rows).on.leads.fit in
        let sums = totalled so_far.rows win.changes t.documents t.bytes sorted_rows fit documents bytes in
        record {
          left = record {
            rows = alike.left ∙ ap₂ (λ (rows : Rows) (ds : List Change). after rows ds) w.left.rows same_changes
                ∙ sym (ap₂ (λ (keys : List Key) (rows : Rows). shown view keys rows) taken.keys taken.left ∙ changed_shown view old.traces.changed old.left cs sorted sorted_left);
            within = subst (λ (keys : List Key). Within keys new.left) (sym taken.keys)
                (subst (λ (rows : Rows). Within (keys_put old.traces.changed (changed_keys cs)) rows) (sym taken.left) (changed_within old.traces.changed old.left cs sorted_left w.left.within));
            changed = taken.keys ∙ ap (λ ks. keys_put ks (changed_keys cs)) w.left.changed ∙ sym (keys_put-append [] (changed_keys so_far.changes) (changed_keys cs))
                ∙ ap each_once (sym (map-append (λ (c : Change). c.key) so_far.changes cs)) ∙ ap (λ ds. each_once (changed_keys (so_far.changes ++ ds))) (sym made_changes);
            touched = taken.touched ∙ ap (λ ks. keys_put ks effect.touched) w.left.touched ∙ sym (keys_put-append [] so_far.touched effect.touched)
                ∙ ap (λ ks. each_once (so_far.touched ++ ks)) (sym made_touched);
          };
          documents = ap (λ (x : Totals). x.documents) taken.totals ∙ sums.many ∙ sym (ap length alike.left);
          bytes = ap (λ (x : Totals). x.bytes) taken.totals ∙ sums.large ∙ sym (ap bytes_of alike.left);
          going = λ e. record {
            run = sym made_run;
            made = taken.made ∙ ap₂ (λ ids ks. ids ++ new_ids s ks) going.made (sym (ap (λ (x : Stepped). x.touched) win_is))
                ∙ sym (step_made names W r s so_far.rows t.documents t.bytes is_window took) ∙ ap (λ (x : Stepped). x.run.made) win_is;
            called_with = sym (ap (λ (x : Stepped). x.run.params) win_is) ∙ (done_step_follows (client_setting names) W r s (none_over run.outcome (drop run.next steps) first)).params ∙ going.called_with;
          };
          over = λ e. ap (λ (x : Run). x.left) made_run ∙ nothing_left steps next (ap is_some (sym told) ∙ some_mapped outcome_view effect.outcome ∙ sym taken.over ∙ e);
        }

    by : (b : Bool) → is_taken so_far.rows s win.changes t.documents t.bytes ≡ b → Becomes b so_far.rows win real → IsFollowedIf b s effect t old new → IsDraft view params steps (more so_far real) next new
    by true is alike taken = taken_draft is alike taken
    by false is over same = subst (λ (d : Draft). IsDraft view params steps (more so_far real) next d) (sym same) (over_draft view params steps so_far real run next old w over.left over.changes over.touched over.over)

  pub followed : IsFollowed view s effect old new → IsDraft view params steps (further (client_setting names) so_far) next new
  followed f =
      let t = f.totals in
      let same : is_taken so_far.rows s win.changes t.documents t.bytes ≡ is_taken (shown_by view old) s effect.changes t.documents t.bytes =
      ap₂ (λ (rows : Rows) (cs : List Change). is_taken rows s cs t.documents t.bytes) w.left.rows same_changes in
      subst (λ (x : Stepped). IsDraft view params steps (more so_far x) next new) (sym real_is)
      (by t f.are (is_taken so_far.rows s win.changes t.documents t.bytes) refl (becomes t f.are) (subst (λ (b : Bool). IsFollowedIf b s effect t old new) (sym same) f.follows))

-- no step is left
pub none_followed : (names : List (List ℕ)) (view : Rows) (params : List Val) (steps : List ProgramStep) (so_far : Stepped) (run : Progress) (old : Draft) → old.is_over ≡ false → IsDraft view params steps so_far run old
    → (run_of steps run).left ≡ [] → IsDraft view params steps (further (client_setting names) so_far) run (record old { is_over = true })
none_followed names view params steps so_far run old goes w none =
    let over : so_far.run.left ≡ [] = ap (λ (x : Run). x.left) (sym (w.going goes).run) ∙ none in
    subst (λ (x : Stepped). IsDraft view params steps x run (record old { is_over = true })) (sym (over_stays (client_setting names) so_far so_far.run refl over))
    (record { left = record { rows = w.left.rows; within = w.left.within; changed = w.left.changed; touched = w.left.touched }; documents = w.documents; bytes = w.bytes; going = λ e. absurd (true≢false e); over = λ e. over })

-- nothing is left elsewhere
pub followed_within : (view : Rows) (s : ProgramStep) (effect : Effect) (old new : Draft) → IsSorted key_cmp old.left → IsWithin old → IsFollowed view s effect old new → IsWithin new
followed_within view s effect old new sorted w f = by (is_taken (shown_by view old) s effect.changes f.totals.documents f.totals.bytes) f.follows
  where
    by : (b : Bool) → IsFollowedIf b s effect f.totals old new → IsWithin new
    by true taken =
        subst (λ (keys : List Key). Within keys new.left) (sym taken.keys)
        (subst (λ (rows : Rows). Within (keys_put old.traces.changed (changed_keys effect.changes)) rows) (sym taken.left) (changed_within old.traces.changed old.left effect.changes sorted w))
    by false same = subst IsWithin (sym same) w

-- ---- the whole stub

begun_made : (params : List Val) (seed : Val) (steps : List ProgramStep) → (begun params seed steps).made ≡ []
begun_made params seed [] = refl
begun_made params seed (s ∷ steps) = refl

begun_params : (params : List Val) (seed : Val) (steps : List ProgramStep) → (begun params seed steps).params ≡ params
begun_params params seed [] = refl
begun_params params seed (s ∷ steps) = refl

pub first_draft : (view : Rows) (params : List Val) (seed : Val) (steps : List ProgramStep) (run : Progress) (draft : Draft) → run_of steps run ≡ begun params seed steps
    → draft.traces.changed ≡ [] → draft.traces.touched ≡ [] → draft.left ≡ [] → draft.made ≡ [] → draft.is_over ≡ false → draft.totals.documents ≡ length view → draft.totals.bytes ≡ bytes_of view
    → IsDraft view params steps (unchanged view (begun params seed steps)) run draft
first_draft view params seed steps run draft is changed touched left made over documents bytes = record {
  left = record {
    rows = sym (ap₂ (λ (keys : List Key) (rows : Rows). shown view keys rows) changed left ∙ none_shown view);
    within = λ k e. ap (λ (rows : Rows). at key_cmp rows k) left;
    changed = changed;
    touched = touched;
  };
  documents = documents;
  bytes = bytes;
  going = λ e. record {
    run = is;
    made = made ∙ sym (ap (λ (x : Run). x.made) is ∙ begun_made params seed steps);
    called_with = ap (λ (x : Run). x.params) is ∙ begun_params params seed steps;
  };
  over = λ e. absurd (true≢false (sym e ∙ over));
}

-- what is left at the changed keys is what the steps left there
same_changes_at : (view rows left : Rows) (ks : List Key) → ((q : Key) → list_any (eq_by_cmp key_cmp q) ks ≡ true → at key_cmp rows q ≡ at key_cmp left q) → map (change_at view left) ks ≡ map (change_at view rows) ks
same_changes_at view rows left [] same = refl
same_changes_at view rows left (k ∷ ks) same =
    ap₂ (λ (o : Option Entries) (cs : List Change). let c : Change = record { key = k; before = at key_cmp view k; after = o } in c ∷ cs) (sym (same k (ap (λ b. b || list_any (eq_by_cmp key_cmp k) ks) (eq_by_cmp-self key_order k))))
    (same_changes_at view rows left ks (λ q e. same q (later (eq_by_cmp key_cmp q k) e)))
  where
    later : (b : Bool) {c : Bool} → c ≡ true → (b || c) ≡ true
    later true e = refl
    later false e = e

pub left_changes : (view : Rows) (stepped : Stepped) (draft : Draft) → IsSorted key_cmp view → IsLeftBy view stepped draft → map (change_at view draft.left) draft.traces.changed ≡ map (change_at view stepped.rows) (each_once (changed_keys stepped.changes))
left_changes view stepped draft sorted w =
    same_changes_at view stepped.rows draft.left draft.traces.changed (λ q e.
    ap (λ (rows : Rows). at key_cmp rows q) w.rows ∙ at_shown view draft.traces.changed draft.left q sorted w.within ∙ ap (λ b. cond b (at key_cmp draft.left q) (at key_cmp view q)) e)
    ∙ ap (map (change_at view stepped.rows)) w.changed
