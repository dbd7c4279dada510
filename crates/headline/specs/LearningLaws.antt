-- Laws: What a session learns of a call leaves less to learn, and no more to begin.
use Rattle.std.specs.Prelude.{◌≡◌, ℕ, ◌≤◌, ◌<◌, nat_le, List, length, Bool, true, false, cond, ◌&&◌, ◌||◌, Option, Some, None, option_map, IfSome}
use Rattle.std.specs.Prelude.{refl, if◌then◌else◌}
use Rattle.std.proofs.Common.{ap, sym, subst, ◌∙◌, arith}
use Rattle.std.proofs.lemmas.Bool.{eqb-true}
use Rattle.app_model.specs.App.{App}
use Rattle.program_steps.specs.declared.outcome.Status.{Status}
use Rattle.program_steps.specs.Runs.{End}
use Rattle.world_model.specs.history_model.declared.entry.Entry.{Entry}
use Rattle.world_model.specs.history_model.History.{status_at}
use Rattle.world_model.specs.session_model.Items.{Item}
use Rattle.world_model.specs.session_model.Items as item
use Rattle.world_model.specs.session_model.Methods.{running, Blocking, is_blocked_by, freed, phase_at}
use Rattle.world_model.specs.session_model.State.{State, after}
use Rattle.world_model.specs.Store.{programs, held_in}
use Rattle.world_model.specs.Conn.{Refusal, Conn, state_in}
use Rattle.world_model.specs.Acts.{with_item, is_kept, without_run, unbegun, is_running, news_of, news_by, learnt, learns_item, learns}
use Rattle.world_model.specs.Settle.{learns_in, calls_in}
use Rattle.headline.specs.Runs.{has_run}
use Rattle.headline.specs.RunsLaws.{run_then}
use Rattle.headline.specs.Clients.{state_learns, IsTidy, IsNews, of_refusal, of_end, of_unblock}
use Rattle.headline.specs.ClientsLaws.{item_state, running_is, blocked_runs, finish_less, refuse_less, unblock_less}
use Rattle.headline.specs.Learning.{kept_after, number_of, wanted}

-- ---- what there is to learn

kept_news : (app : App) (history : List Entry) (c : Conn) (k : ℕ) (i : Item) (o : Option Refusal) → IsTidy c → c.kept ≡ o → is_kept k o ≡ true →
    IfSome o (λ (r : Refusal). is_blocked_by r.k (state_in c).blocking ≡ true) →
    option_map (λ (r : Refusal). item.refused k r.at) o ≡ Some i → IsNews app history c k i
kept_news app history c k i None tidy was is blocked e = absurd (cc is)
kept_news app history c k i (Some r) tidy was is blocked e =
    let same : k ≡ r.k = eqb-true k r.k is in
    let mine : is_blocked_by k (state_in c).blocking ≡ true = ap (λ j. is_blocked_by j (state_in c).blocking) same ∙ blocked in
    let one : item.refused k r.at ≡ i = cc e in
    subst (IsNews app history c k) one
    (of_refusal r.at (ap (is_kept k) was ∙ is) mine (blocked_runs k (state_in c).blocking (state_in c).methods mine tidy.runs))

end_news : (app : App) (history : List Entry) (c : Conn) (k : ℕ) (i : Item) (unblocked : Bool) (o : Option End) → is_kept k c.kept ≡ false →
    has_run app history c.number k ≡ true → phase_at k (state_in c).methods ≡ Some running →
    news_of (state_in c) k unblocked o ≡ Some i → IsNews app history c k i
end_news app history c k i unblocked (Some end) free ran is e =
    let one : item.finished k end.at ≡ i = cc e in subst (IsNews app history c k) one (of_end end.at free ran is)
end_news app history c k i unblocked None free ran is e = by (unblocked && is_blocked_by k (state_in c).blocking) refl e
  where
    blocked : (a b : Bool) → (a && b) ≡ true → b ≡ true
    blocked true b h = h
    blocked false b h = cc h

    by : (b : Bool) → (unblocked && is_blocked_by k (state_in c).blocking) ≡ b → (if b then Some (item.unblocked k) else None) ≡ Some i →
        IsNews app history c k i
    by true h one = let same : item.unblocked k ≡ i = cc one in subst (IsNews app history c k) same
        (of_unblock free ran (blocked unblocked (is_blocked_by k (state_in c).blocking) h))
    by false h one = absurd (cc one)

status_news : (app : App) (history : List Entry) (c : Conn) (k place : ℕ) (i : Item) (o : Option Status) → is_kept k c.kept ≡ false →
    status_at (programs app) history place c.number k ≡ o → news_by (state_in c) k o ≡ Some i → IsNews app history c k i
status_news app history c k place i None free is e = absurd (cc e)
status_news app history c k place i (Some status) free is e = by (is_running (phase_at k (state_in c).methods)) refl e
  where
    by : (b : Bool) → is_running (phase_at k (state_in c).methods) ≡ b →
        (if b then news_of (state_in c) k status.unblocked status.ended else None) ≡ Some i → IsNews app history c k i
    by true h one = end_news app history c k i status.unblocked status.ended free (run_then app history place c.number k status is)
        (running_is (phase_at k (state_in c).methods) h) one
    by false h one = absurd (cc one)

pub news_is : (app : App) (history : List Entry) (c : Conn) (k place : ℕ) (i : Item) → IsTidy c → learnt app history c k place ≡ Some i →
    IsNews app history c k i
news_is app history c k place i tidy e = by (is_kept k c.kept) refl e
  where
    within : (b : Bool) → is_kept k c.kept ≡ false →
        (if b then news_by (state_in c) k (status_at (programs app) history place c.number k) else None) ≡ Some i → IsNews app history c k i
    within true free one = status_news app history c k place i (status_at (programs app) history place c.number k) free refl one
    within false free one = absurd (cc one)

    by : (b : Bool) → is_kept k c.kept ≡ b →
        (if b then option_map (λ (r : Refusal). item.refused k r.at) c.kept else
        (if nat_le place (length history) then news_by (state_in c) k (status_at (programs app) history place c.number k) else None)) ≡ Some i →
        IsNews app history c k i
    by true h one = kept_news app history c k i c.kept tidy refl h tidy.kept one
    by false h one = within (nat_le place (length history)) h one

-- ---- less to learn

news_less : (app : App) (history : List Entry) (c : Conn) (k : ℕ) (i : Item) → IsNews app history c k i →
    state_learns (after (state_in c) i) < state_learns (state_in c)
news_less app history c k i (of_refusal place kept blocked is) = refuse_less (state_in c) k place is
news_less app history c k i (of_end place free ran is) = finish_less (state_in c) k place is
news_less app history c k i (of_unblock free ran blocked) = unblock_less (state_in c) k blocked

pub learn_less : (app : App) (history : List Entry) (c : Conn) (k place : ℕ) (i : Item) → IsTidy c → learnt app history c k place ≡ Some i →
    learns_in (learns app history c k place) < learns_in c
learn_less app history c k place i tidy e =
    subst (λ (o : Option Item). learns_in (learns_item app history (kept_after k c) o) < learns_in c) (sym e)
    (subst (λ (st : State). state_learns st < state_learns (state_in c)) (sym (item_state app history (kept_after k c) i))
    (news_less app history c k i (news_is app history c k place i tidy e)))

-- ---- no more to begin

unbegun_by : (app : App) (history : List Entry) (c : Conn) (o : Option Blocking) → without_run (held_in app history) c o ≡ wanted app history c.number c.kept o
unbegun_by app history c None = refl
unbegun_by app history c (Some b) = refl

pub unbegun_is : (app : App) (history : List Entry) (c : Conn) → unbegun app history c ≡ wanted app history c.number c.kept (state_in c).blocking
unbegun_is app history c = unbegun_by app history c (state_in c).blocking

run_wanted : (app : App) (history : List Entry) (n k : ℕ) (kept : Option Refusal) (o : Option Blocking) → is_blocked_by k o ≡ true →
    has_run app history n k ≡ true → wanted app history n kept o ≡ None
run_wanted app history n k kept None is ran = refl
run_wanted app history n k kept (Some b) is ran =
    let mine : has_run app history n b.k ≡ true = ap (has_run app history n) (sym (eqb-true k b.k is)) ∙ ran in
    ap (λ x. cond (x || is_kept b.k kept) None (Some b)) mine

kept_wanted : (app : App) (history : List Entry) (n k : ℕ) (kept : Option Refusal) (o : Option Blocking) → is_blocked_by k o ≡ true →
    is_kept k kept ≡ true → wanted app history n kept o ≡ None
kept_wanted app history n k kept None is there = refl
kept_wanted app history n k kept (Some b) is there =
    let mine : is_kept b.k kept ≡ true = ap (λ j. is_kept j kept) (sym (eqb-true k b.k is)) ∙ there in
    ap (λ x. cond (has_run app history n b.k || x) None (Some b)) mine ∙ by (has_run app history n b.k)
  where
    by : (x : Bool) → cond (x || true) None (Some b) ≡ None
    by true = refl
    by false = refl

freed_wanted : (app : App) (history : List Entry) (n k : ℕ) (kept : Option Refusal) (o : Option Blocking) →
    (is_blocked_by k o ≡ true → wanted app history n kept o ≡ None) → wanted app history n kept (freed k o) ≡ wanted app history n kept o
freed_wanted app history n k kept o none = by (is_blocked_by k o) refl
  where
    by : (b : Bool) → is_blocked_by k o ≡ b → wanted app history n kept (if b then None else o) ≡ wanted app history n kept o
    by true is = sym (none is)
    by false is = refl

news_wanted : (app : App) (history : List Entry) (c : Conn) (k : ℕ) (i : Item) → IsNews app history c k i →
    wanted app history c.number (if is_kept k c.kept then None else c.kept) (after (state_in c) i).blocking ≡ wanted app history c.number c.kept
    (state_in c).blocking
news_wanted app history c k i (of_refusal place kept blocked is) =
    ap (λ b. wanted app history c.number (cond b None c.kept) (freed k (state_in c).blocking)) kept
    ∙ ap (λ b. wanted app history c.number None (cond b None (state_in c).blocking)) blocked
    ∙ sym (kept_wanted app history c.number k c.kept (state_in c).blocking blocked kept)
news_wanted app history c k i (of_end place free ran is) =
    ap (λ b. wanted app history c.number (cond b None c.kept) (freed k (state_in c).blocking)) free
    ∙ freed_wanted app history c.number k c.kept (state_in c).blocking (λ blocked. run_wanted app history c.number k c.kept (state_in c).blocking blocked ran)
news_wanted app history c k i (of_unblock free ran blocked) =
    ap (λ b. wanted app history c.number (cond b None c.kept) (freed k (state_in c).blocking)) free
    ∙ freed_wanted app history c.number k c.kept (state_in c).blocking (λ blocked. run_wanted app history c.number k c.kept (state_in c).blocking blocked ran)

pub learn_calls : (app : App) (history : List Entry) (c : Conn) (k place : ℕ) (i : Item) → IsTidy c → learnt app history c k place ≡ Some i →
    calls_in app history (learns app history c k place) ≡ calls_in app history c
learn_calls app history c k place i tidy e =
    let d = with_item app history (kept_after k c) i in
    ap (λ (o : Option Item). calls_in app history (learns_item app history (kept_after k c) o)) e
    ∙ ap number_of (unbegun_is app history d)
    ∙ ap (λ (st : State). number_of (wanted app history c.number (kept_after k c).kept st.blocking)) (item_state app history (kept_after k c) i)
    ∙ ap number_of (news_wanted app history c k i (news_is app history c k place i tidy e))
    ∙ sym (ap number_of (unbegun_is app history c))

-- an item that frees no call leaves as many to begin
pub item_calls : (app : App) (history : List Entry) (c : Conn) (i : Item) → (after (state_in c) i).blocking ≡ (state_in c).blocking →
    calls_in app history (with_item app history c i) ≡ calls_in app history c
item_calls app history c i same =
    ap number_of (unbegun_is app history (with_item app history c i))
    ∙ ap (λ (st : State). number_of (wanted app history c.number c.kept st.blocking)) (item_state app history c i)
    ∙ ap (λ (o : Option Blocking). number_of (wanted app history c.number c.kept o)) same
    ∙ sym (ap number_of (unbegun_is app history c))

-- ---- entries

-- where a call that had a run still has one, there are no more to begin
wanted_fewer : (app : App) (history later : List Entry) (n : ℕ) (kept : Option Refusal) (o : Option Blocking) →
    ((k : ℕ) → has_run app history n k ≡ true → has_run app later n k ≡ true) →
    number_of (wanted app later n kept o) ≤ number_of (wanted app history n kept o)
wanted_fewer app history later n kept None more = omega arith
wanted_fewer app history later n kept (Some b) more = by (has_run app history n b.k) (has_run app later n b.k) (more b.k) (is_kept b.k kept)
  where
    by : (x y : Bool) → (x ≡ true → y ≡ true) → (z : Bool) → number_of (cond (y || z) None (Some b)) ≤ number_of (cond (x || z) None (Some b))
    by true y h z = omega (arith, ap (λ q. number_of (cond (q || z) None (Some b))) (h refl))
    by false true h z = omega arith
    by false false h z = omega arith

pub calls_fewer : (app : App) (history later : List Entry) (c : Conn) →
    ((k : ℕ) → has_run app history c.number k ≡ true → has_run app later c.number k ≡ true) → calls_in app later c ≤ calls_in app history c
calls_fewer app history later c more =
    omega (
      arith,
      wanted_fewer app history later c.number c.kept (state_in c).blocking more,
      ap number_of (unbegun_is app history c),
      ap number_of (unbegun_is app later c),
    )

-- where the same calls have one, there are as many
pub calls_same : (app : App) (history later : List Entry) (c : Conn) → ((k : ℕ) → has_run app later c.number k ≡ has_run app history c.number k) →
    calls_in app later c ≡ calls_in app history c
calls_same app history later c same = ap number_of (unbegun_is app later c) ∙ by (state_in c).blocking ∙ sym (ap number_of (unbegun_is app history c))
  where
    by : (o : Option Blocking) → number_of (wanted app later c.number c.kept o) ≡ number_of (wanted app history c.number c.kept o)
    by None = refl
    by (Some b) = ap (λ x. number_of (cond (x || is_kept b.k c.kept) None (Some b))) (same b.k)

-- the call that is to be begun has no run, and no refusal of it is kept
pub unbegun_free : (app : App) (history : List Entry) (c : Conn) (b : Blocking) → unbegun app history c ≡ Some b → (state_in c).blocking ≡ Some b
unbegun_free app history c b e = by (state_in c).blocking (sym (unbegun_is app history c) ∙ e)
  where
    by : (o : Option Blocking) → wanted app history c.number c.kept o ≡ Some b → o ≡ Some b
    by None h = absurd (cc h)
    by (Some x) h = inside (has_run app history c.number x.k || is_kept x.k c.kept) h
      where
        inside : (q : Bool) → cond q None (Some x) ≡ Some b → Some x ≡ Some b
        inside true g = absurd (cc g)
        inside false g = g

-- once it has a run, or a refusal of it is kept, none is to be begun
pub run_begun : (app : App) (history : List Entry) (c : Conn) (b : Blocking) → (state_in c).blocking ≡ Some b →
    has_run app history c.number b.k ≡ true → calls_in app history c ≡ 0
run_begun app history c b is ran =
    ap number_of (unbegun_is app history c) ∙ ap (λ (o : Option Blocking). number_of (wanted app history c.number c.kept o)) is
    ∙ ap (λ x. number_of (cond (x || is_kept b.k c.kept) None (Some b))) ran

pub kept_begun : (app : App) (history : List Entry) (c : Conn) (b : Blocking) → (state_in c).blocking ≡ Some b → is_kept b.k c.kept ≡ true →
    calls_in app history c ≡ 0
kept_begun app history c b is there =
    ap number_of (unbegun_is app history c) ∙ ap (λ (o : Option Blocking). number_of (wanted app history c.number c.kept o)) is
    ∙ ap (λ x. number_of (cond (has_run app history c.number b.k || x) None (Some b))) there
    ∙ by (has_run app history c.number b.k)
  where
    by : (x : Bool) → number_of (cond (x || true) None (Some b)) ≡ 0
    by true = refl
    by false = refl
