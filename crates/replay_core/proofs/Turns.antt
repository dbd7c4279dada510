-- One line of a replay, and those that follow.
use Rattle.std.proofs.Common.{◌≡◌, ℕ, suc, ◌+◌, ◌<◌, List, ◌∷◌, ◌++◌, length, drop, get_or, drop-cons, true, false, Some, refl, ap, sym, subst, ◌∙◌, inl, inr}
use Rattle.std.proofs.lemmas.Grind.{flat_map-append}
use Rattle.std.proofs.lemmas.List.{append_assoc}
use Rattle.world_core.specs.world_model.declared.events.Event.{Event}
use Rattle.world_core.specs.world_model.World.{World}
use Rattle.world_core.specs.world_model.Lines.{lines_of}
use Rattle.world_core.specs.world_model.Events.{step}
use Rattle.checking.specs.Input.{is_blank}
use Rattle.checking.specs.WalkLaws.{read_behind_blank, bad_behind_blank, read_with, bad_with}
use Rattle.replay_core.specs.Replay.{event_of, events_of, bad_line, printed, line_bytes, all_bytes}
use Rattle.replay_core.specs.declared.tasks.ReadLine.{ReadLine}
use Rattle.replay_core.specs.Tasks.{AreRead, texts_of, written, Place, place, Leads}
use Rattle.replay_core.specs.Stepping.{RunsLine}

events-blank : (l : List ℕ) (ls : List (List ℕ)) → is_blank l ≡ true → events_of (l ∷ ls) ≡ events_of ls
events-blank l ls b = read_behind_blank event_of (l ∷ ls) l ls refl b

bad-blank : (n : ℕ) (l : List ℕ) (ls : List (List ℕ)) → is_blank l ≡ true → bad_line n (l ∷ ls) ≡ bad_line (n + 1) ls
bad-blank n l ls b = bad_behind_blank event_of n (l ∷ ls) l ls refl b

events-event : (l : List ℕ) (ls : List (List ℕ)) (e : Event) → is_blank l ≡ false → event_of l ≡ Some e → events_of (l ∷ ls) ≡ e ∷ events_of ls
events-event l ls e b is = read_with event_of (l ∷ ls) l ls (Some e) refl b is

bad-event : (n : ℕ) (l : List ℕ) (ls : List (List ℕ)) (e : Event) → is_blank l ≡ false → event_of l ≡ Some e → bad_line n (l ∷ ls) ≡ bad_line (n + 1) ls
bad-event n l ls e b is = bad_with event_of n (l ∷ ls) l ls (Some e) refl b is

written-blank : (w : World) (l : List ℕ) (ls : List (List ℕ)) → is_blank l ≡ true → written w (l ∷ ls) ≡ written w ls
written-blank w l ls b = ap (λ events. all_bytes (printed w events)) (events-blank l ls b)

written-event : (w : World) (l : List ℕ) (ls : List (List ℕ)) (e : Event) → is_blank l ≡ false → event_of l ≡ Some e → written w (l ∷ ls) ≡ all_bytes (lines_of w e) ++ written (step w e) ls
written-event w l ls e b is = ap (λ events. all_bytes (printed w events)) (events-event l ls e b is) ∙ flat_map-append line_bytes (lines_of w e) (printed (step w e) (events_of ls))

-- over a line that ran
one_ran : (l : List ℕ) (ls : List (List ℕ)) (n m : ℕ) (w v : World) (before now : List ℕ) → m ≡ n + 1 → RunsLine l w v before now true → Leads (place (l ∷ ls) n w before) (place ls m v now)
one_ran l ls n m w v before now up (inl b) = record {
  text = ap (λ rest. before ++ rest) (written-blank w l ls b.0) ∙ (ap (λ x. before ++ written x ls) (sym b.1) ∙ ap (λ out. out ++ written v ls) (sym b.2));
  bad = bad-blank n l ls b.0 ∙ ap (λ k. bad_line k ls) (sym up);
}
one_ran l ls n m w v before now up (inr r) = record {
  text =
      ap (λ rest. before ++ rest) (written-event w l ls r.event r.is_line r.is_event)
      ∙ (sym (append_assoc before (all_bytes (lines_of w r.event)) (written (step w r.event) ls))
      ∙ (ap (λ x. (before ++ all_bytes (lines_of w r.event)) ++ written x ls) (sym r.world)
      ∙ ap (λ out. out ++ written v ls) (sym r.output)));
  bad = bad-event n l ls r.event r.is_line r.is_event ∙ ap (λ k. bad_line k ls) (sym up);
}

leads_on : (p q r : Place) → Leads p q → Leads q r → Leads p r
leads_on p q r a b = record { text = a.text ∙ b.text; bad = a.bad ∙ b.bad }

-- the first of the lines that are left
first_left : (all : List ReadLine) (i j : ℕ) (r : ReadLine) → i < length all → j ≡ suc i → r ≡ get_or all i r → drop i all ≡ r ∷ drop j all
first_left all i j r within further is =
    drop-cons all i r within ∙ (ap (λ x. x ∷ drop (suc i) all) (sym is) ∙ ap (λ k. r ∷ drop k all) (sym further))

pub left_read : (all : List ReadLine) (i j : ℕ) (r : ReadLine) → i < length all → j ≡ suc i → r ≡ get_or all i r → AreRead (drop i all) → AreRead (drop j all)
left_read all i j r within further is read = (subst (λ rs. AreRead rs) (first_left all i j r within further is) read).1

pub line_leads : (all : List ReadLine) (i j : ℕ) (r : ReadLine) → i < length all → j ≡ suc i → r ≡ get_or all i r → (n m : ℕ) (w v : World) (before now : List ℕ) → m ≡ n + 1 →
    RunsLine r.line.now w v before now true → (start : Place) (more : List (List ℕ)) →
    Leads start (place (texts_of (drop i all) ++ more) n w before) → Leads start (place (texts_of (drop j all) ++ more) m v now)
line_leads all i j r within further is n m w v before now up ran start more lead =
    let here : Leads start (place (r.line.now ∷ (texts_of (drop j all) ++ more)) n w before) =
    subst (λ rs. Leads start (place (texts_of rs ++ more) n w before)) (first_left all i j r within further is) lead in
    leads_on start (place (r.line.now ∷ (texts_of (drop j all) ++ more)) n w before) (place (texts_of (drop j all) ++ more) m v now) here
    (one_ran r.line.now (texts_of (drop j all) ++ more) n m w v before now up ran)
