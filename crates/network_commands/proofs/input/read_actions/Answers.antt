use Rattle.std.proofs.Common.{◌≡◌, ◌++◌, ap, sym, ◌∙◌, [], ◌∷◌, arith, refl, true, false, Some}
use Rattle.std.proofs.lemmas.List.{append_assoc}
use Rattle.checking.specs.Input.{lines_in, is_blank}
use Rattle.checking.specs.WalkLaws.{read_behind_blank, bad_behind_blank, read_with, bad_with}
use Rattle.network_commands.specs.Input.{action_in, actions_of}
use Rattle.network_commands.proofs.input.read_actions.Goals.{then-not-is_blank+in_ok-action+in-Some+in_ok-push, else-not-is_blank}
use Rattle.network_commands.proofs.input.read_actions.Goals as goal

pub loop-rest-preserved : goal.loop-rest-preserved
loop-rest-preserved c =
    let all = lines_in c.loop-rest.rest.now in
    let line = c.first_line.result.0.now in
    let more = lines_in c.first_line.result.1.now in
    let is : all ≡ line ∷ more = c.first_line.ensures.lines in
    elim c.if-not-is_blank.branch [
      | then-not-is_blank+in_ok-action+in-Some+in_ok-push w ↦
          let filled : is_blank line ≡ false = sym c.is_blank.ensures ∙ w.if-not-is_blank.true in
          let reads : action_in line ≡ Some w.in-Some.action = sym w.in_ok-action.ensures ∙ w.in-Some.is in
          record {
            script =
                ap (λ s. s ++ actions_of more) (w.script-is ∙ w.in_ok-push.ensures.ok)
                ∙ (append_assoc c.loop-rest.script (w.in-Some.action ∷ []) (actions_of more)
                ∙ (ap (λ s. c.loop-rest.script ++ s) (sym (read_with action_in all line more (Some w.in-Some.action) is filled reads))
                ∙ c.loop-rest.invariant.script));
            bad = sym (bad_with action_in c.loop-rest.number all line more (Some w.in-Some.action) is filled reads) ∙ c.loop-rest.invariant.bad;
            number = omega (arith, c.loop-rest.invariant.number, c.first_line.ensures.shorter);
          }
      | else-not-is_blank w ↦
          let blank : is_blank line ≡ true = sym c.is_blank.ensures ∙ w.if-not-is_blank.false in
          record {
            script =
                ap (λ s. s ++ actions_of more) w.script-is
                ∙ (ap (λ s. c.loop-rest.script ++ s) (sym (read_behind_blank action_in all line more is blank))
                ∙ c.loop-rest.invariant.script);
            bad = sym (bad_behind_blank action_in c.loop-rest.number all line more is blank) ∙ c.loop-rest.invariant.bad;
            number = omega (arith, c.loop-rest.invariant.number, c.first_line.ensures.shorter);
          }
    ]
