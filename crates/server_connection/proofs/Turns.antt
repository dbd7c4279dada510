-- One call more of a link that is served, and moves that make no call.
use Rattle.std.specs.Prelude.{◌≡◌, ◌⊎◌, ◌≤◌, ◌||◌, ℕ, List, [], ◌∷◌, ◌++◌, true, false, Option, Some, None, option_to_list, refl}
use Rattle.std.proofs.Common.{ap, sym, subst, ◌∙◌, inl, inr, arith}
use Rattle.std.proofs.Math.Bool.{or-false, or-true}
use Rattle.std.proofs.lemmas.List.{append_assoc, append-nil}
use Rattle.duct.specs.declared.link.Polled.{Polled}
use Rattle.duct.specs.declared.link.Polled.TheVariants.{Message, Closed}
use Rattle.duct.specs.declared.link.SendFault.{SendFault}
use Rattle.duct.specs.declared.link.SendFault.TheVariants as fault
use Rattle.duct.specs.Calls.{Call, heard, said, handed_back, heard_in, said_in, has_refusal}
use Rattle.server_connection.specs.declared.desk.Desk.{Desk}
use Rattle.duct.specs.CallLaws.{leads_then, heard_in-append, said_in-append, has_refusal-append}
use Rattle.server_connection.specs.Serving.{Texts, IsNext, AreInTurn, is_close, tells_close, MayPoll, ArePolls, Serving, Keeps, IsClosed, TakesIn, TakesAgain, GoesNext}

-- ---- lists of calls

-- the text that was handed back last, and not said since, once this call is made
abbrev back_after : Call → Option (List ℕ) → Option (List ℕ)
back_after (heard answer) back = back
back_after (said text) back = None
back_after (handed_back text fault) back = Some text

abbrev IsInTurn : Option (List ℕ) → Call → Type 0
IsInTurn back (heard answer) = Unit {0}
IsInTurn back (said text) = IsNext back text
IsInTurn back (handed_back text fault) = IsNext back text

one_turn : (back : Option (List ℕ)) (call : Call) → IsInTurn back call → AreInTurn back (call ∷ []) (back_after call back)
one_turn back (heard answer) is = refl
one_turn back (said text) is = (is, refl)
one_turn back (handed_back text fault) is = (is, refl)

turns_then : (first last : Option (List ℕ)) (calls : List Call) (call : Call) → AreInTurn first calls last → IsInTurn last call → AreInTurn first (calls ++ call ∷ []) (back_after call last)
turns_then first last [] call is turn = subst (λ b. AreInTurn b (call ∷ []) (back_after call last)) is (one_turn last call turn)
turns_then first last (heard answer ∷ calls) call is turn = turns_then first last calls call is turn
turns_then first last (said text ∷ calls) call is turn = (is.0, turns_then None last calls call is.1 turn)
turns_then first last (handed_back text fault ∷ calls) call is turn = (is.0, turns_then (Some text) last calls call is.1 turn)

tells_close_then : (calls : List Call) (call : Call) → is_close call ≡ true → tells_close (calls ++ call ∷ []) ≡ true
tells_close_then [] call is = ap (λ b. b || false) is
tells_close_then (first ∷ calls) call is = ap (λ b. is_close first || b) (tells_close_then calls call is) ∙ or-true (is_close first)

module _ {S : Type 0} (Means : Texts → Texts → S → Type 0) (Rests : S → Type 0) where
  abbrev IsPoll : List Call → Call → Type 0
  IsPoll before (heard answer) = MayPoll Means Rests before
  IsPoll before (said text) = Unit {0}
  IsPoll before (handed_back text fault) = Unit {0}

  one_poll : (before : List Call) (call : Call) → IsPoll before call → ArePolls Means Rests before (call ∷ [])
  one_poll before (heard answer) is = (is, tt)
  one_poll before (said text) is = tt
  one_poll before (handed_back text fault) is = tt

  behind : (before : List Call) (first : Call) (calls : List Call) (call : Call) → IsPoll (before ++ (first ∷ calls)) call → IsPoll ((before ++ first ∷ []) ++ calls) call
  behind before first calls call is = subst (λ cs. IsPoll cs call) (sym (append_assoc before (first ∷ []) calls)) is

  polls_then : (before calls : List Call) (call : Call) → ArePolls Means Rests before calls → IsPoll (before ++ calls) call → ArePolls Means Rests before (calls ++ call ∷ [])
  polls_then before [] call polls is = one_poll before call (subst (λ cs. IsPoll cs call) (append-nil before) is)
  polls_then before (heard answer ∷ calls) call polls is = (polls.0, polls_then (before ++ heard answer ∷ []) calls call polls.1 (behind before (heard answer) calls call is))
  polls_then before (said text ∷ calls) call polls is = polls_then (before ++ said text ∷ []) calls call polls (behind before (said text) calls call is)
  polls_then before (handed_back text fault ∷ calls) call polls is = polls_then (before ++ handed_back text fault ∷ []) calls call polls (behind before (handed_back text fault) calls call is)

  module _ {L : Type 0} (steps : L → Call → L → Type 0) (faults : L → ℕ) where
    abbrev Serves : L → L → S → Desk → Type 0
    Serves = Serving Means Rests steps faults

    -- nothing was done with the link, and the session goes on standing for its texts
    pub kept : (link : L) (s s' : S) (d : Desk) → ((taken sent : Texts) → Means taken sent s → Means taken sent s') → Keeps Means Rests steps faults link s d link s' d
    kept link s s' d keeps first m = record { calls = m.calls; leads = m.leads; counts = m.counts; taken = m.taken; sent = m.sent; means = keeps m.taken m.sent m.means; heard_all = m.heard_all; said_all = m.said_all; turns = m.turns; polls = m.polls; refusal = m.refusal }

    -- ---- a text is said, or handed back

    module _ (first link link' : L) (s s' : S) (d d' : Desk) (text : List ℕ) (m : Serves first link s d) (g : GoesNext Means text s s' d d') where
      pub said_more : steps link (said text) link' → faults link ≤ faults link' → Serves first link' s' d'
      said_more step le = record {
        calls = m.calls ++ said text ∷ [];
        leads = leads_then steps first link link' m.calls (said text) m.leads step;
        counts = omega (arith, m.counts, le);
        taken = m.taken;
        sent = said_in m.calls ++ text ∷ [];
        means = g.means m.taken (said_in m.calls) (subst (λ ts. Means m.taken ts s) m.said_all m.means);
        heard_all = heard_in-append m.calls (said text ∷ []) ∙ (append-nil (heard_in m.calls) ∙ (m.heard_all ∙ ap (λ o. m.taken ++ option_to_list o) (sym g.held)));
        said_all = sym (append-nil (said_in m.calls ++ text ∷ [])) ∙ (ap (λ ts. ts ++ []) (sym (said_in-append m.calls (said text ∷ []))) ∙ ap (λ o. said_in (m.calls ++ said text ∷ []) ++ option_to_list o) (sym g.back));
        turns = subst (λ b. AreInTurn None (m.calls ++ said text ∷ []) b) (sym g.back) (turns_then None d.back m.calls (said text) m.turns g.next);
        polls = polls_then [] m.calls (said text) m.polls tt;
        refusal = has_refusal-append m.calls (said text ∷ []) ∙ (or-false (has_refusal m.calls) ∙ (m.refusal ∙ sym g.refused));
      }

      pub handed_more : (cause : SendFault) → steps link (handed_back text cause) link' → faults link ≤ faults link' → Serves first link' s' (record d' { back = Some text; refused = true })
      handed_more cause step le = record {
        calls = m.calls ++ handed_back text cause ∷ [];
        leads = leads_then steps first link link' m.calls (handed_back text cause) m.leads step;
        counts = omega (arith, m.counts, le);
        taken = m.taken;
        sent = said_in m.calls ++ text ∷ [];
        means = g.means m.taken (said_in m.calls) (subst (λ ts. Means m.taken ts s) m.said_all m.means);
        heard_all = heard_in-append m.calls (handed_back text cause ∷ []) ∙ (append-nil (heard_in m.calls) ∙ (m.heard_all ∙ ap (λ o. m.taken ++ option_to_list o) (sym g.held)));
        said_all = ap (λ ts. ts ++ text ∷ []) (sym (said_in-append m.calls (handed_back text cause ∷ []) ∙ append-nil (said_in m.calls)));
        turns = turns_then None d.back m.calls (handed_back text cause) m.turns g.next;
        polls = polls_then [] m.calls (handed_back text cause) m.polls tt;
        refusal = has_refusal-append m.calls (handed_back text cause ∷ []) ∙ or-true (has_refusal m.calls);
      }

      pub handed_close : steps link (handed_back text fault.Closed) link' → faults link ≤ faults link' → IsClosed Means Rests steps faults first link' s' (record d' { back = Some text; refused = true })
      unfolding handed_more
      handed_close step le = record { serving = handed_more fault.Closed step le; closed = tells_close_then m.calls (handed_back text fault.Closed) refl }

    -- ---- the link is polled

    -- what is so right before a poll: no text is held, and either a text was handed back, or none waits to be said and the session rests
    abbrev pub IsDue : S → Desk → Type 0
    IsDue s d = (d.held ≡ None) × ((d.refused ≡ true) ⊎ ((d.back ≡ None) × Rests s))

    module _ (first link link' : L) (s : S) (d : Desk) (m : Serves first link s d) (due : IsDue s d) where
      all_taken : heard_in m.calls ≡ m.taken
      all_taken = m.heard_all ∙ (ap (λ o. m.taken ++ option_to_list o) due.0 ∙ append-nil m.taken)

      rest_by : (d.refused ≡ true) ⊎ ((d.back ≡ None) × Rests s) → (has_refusal m.calls ≡ true) ⊎ ((m.sent ≡ said_in m.calls) × Rests s)
      rest_by (inl handed) = inl (m.refusal ∙ handed)
      rest_by (inr all) = inr (m.said_all ∙ (ap (λ o. said_in m.calls ++ option_to_list o) all.0 ∙ append-nil (said_in m.calls)), all.1)

      may : MayPoll Means Rests m.calls
      may = record { session = s; sent = m.sent; means = subst (λ ts. Means ts m.sent s) (sym all_taken) m.means; rests = rest_by due.1 }

      heard_more : (answer : Polled) (s' : S) (held : Option (List ℕ)) → steps link (heard answer) link' → faults link ≤ faults link' → (taken : Texts) → Means taken m.sent s'
          → m.taken ++ heard_in (heard answer ∷ []) ≡ taken ++ option_to_list held → Serves first link' s' (record d { held = held })
      heard_more answer s' held step le taken means all = record {
        calls = m.calls ++ heard answer ∷ [];
        leads = leads_then steps first link link' m.calls (heard answer) m.leads step;
        counts = omega (arith, m.counts, le);
        taken = taken;
        sent = m.sent;
        means = means;
        heard_all = heard_in-append m.calls (heard answer ∷ []) ∙ (ap (λ ts. ts ++ heard_in (heard answer ∷ [])) all_taken ∙ all);
        said_all = m.said_all ∙ ap (λ ts. ts ++ option_to_list d.back) (sym (said_in-append m.calls (heard answer ∷ []) ∙ append-nil (said_in m.calls)));
        turns = turns_then None d.back m.calls (heard answer) m.turns tt;
        polls = polls_then [] m.calls (heard answer) m.polls may;
        refusal = has_refusal-append m.calls (heard answer ∷ []) ∙ (or-false (has_refusal m.calls) ∙ m.refusal);
      }

      -- nothing is heard
      pub heard_none : (answer : Polled) → heard_in (heard answer ∷ []) ≡ [] → steps link (heard answer) link' → faults link ≤ faults link' → Serves first link' s d
      heard_none answer none step le = subst (λ o. Serves first link' s (record d { held = o })) (sym due.0) (heard_more answer s None step le m.taken m.means (ap (λ ts. m.taken ++ ts) none))

      pub heard_close : steps link (heard Closed) link' → faults link ≤ faults link' → IsClosed Means Rests steps faults first link' s d
      unfolding heard_more
      heard_close step le = subst (λ o. IsClosed Means Rests steps faults first link' s (record d { held = o })) (sym due.0)
          (record { serving = heard_more Closed s None step le m.taken m.means refl; closed = tells_close_then m.calls (heard Closed) refl })

      -- a text is heard, and taken or held
      pub heard_text : (text : List ℕ) (s' : S) (held : Option (List ℕ)) → steps link (heard (Message text)) link' → faults link ≤ faults link' → TakesIn Means text s s' held → Serves first link' s' (record d { held = held })
      heard_text text s' None step le t = heard_more (Message text) s' None step le (m.taken ++ text ∷ []) (t m.taken m.sent m.means) (sym (append-nil (m.taken ++ text ∷ [])))
      heard_text text s' (Some held) step le t =
          heard_more (Message text) s' (Some held) step le m.taken (subst (λ x. Means m.taken m.sent x) (sym t.1) m.means) (ap (λ x. m.taken ++ x ∷ []) (sym t.0))

    -- the text that was held is taken, or is held still
    pub taken_later : (link : L) (s s' : S) (d : Desk) (text : List ℕ) (held : Option (List ℕ)) → d.held ≡ Some text → TakesIn Means text s s' held → Keeps Means Rests steps faults link s d link s' (record d { held = held })
    taken_later link s s' d text None is t first m = record {
      calls = m.calls;
      leads = m.leads;
      counts = m.counts;
      taken = m.taken ++ text ∷ [];
      sent = m.sent;
      means = t m.taken m.sent m.means;
      heard_all = m.heard_all ∙ (ap (λ o. m.taken ++ option_to_list o) is ∙ sym (append-nil (m.taken ++ text ∷ [])));
      said_all = m.said_all;
      turns = m.turns;
      polls = m.polls;
      refusal = m.refusal;
    }
    taken_later link s s' d text (Some held) is t first m = record {
      calls = m.calls;
      leads = m.leads;
      counts = m.counts;
      taken = m.taken;
      sent = m.sent;
      means = subst (λ x. Means m.taken m.sent x) (sym t.1) m.means;
      heard_all = m.heard_all ∙ (ap (λ o. m.taken ++ option_to_list o) is ∙ ap (λ x. m.taken ++ x ∷ []) (sym t.0));
      said_all = m.said_all;
      turns = m.turns;
      polls = m.polls;
      refusal = m.refusal;
    }

    pub taken_again : (link : L) (s s' : S) (d : Desk) (o held : Option (List ℕ)) → d.held ≡ o → TakesAgain Means o s s' held → Keeps Means Rests steps faults link s d link s' (record d { held = held })
    taken_again link s s' d (Some text) held is t = taken_later link s s' d text held is t
    taken_again link s s' d None held is t = λ first m.
        subst (λ x. Serves first link x (record d { held = held })) (sym t.0) (subst (λ x. Serves first link s (record d { held = x })) (is ∙ sym t.1) m)
