use Rattle.std.proofs.Common.{◌≡◌, ◌++◌, ap, sym, ◌∙◌, ◌∷◌, arith, refl, ℕ, Vec, Global, true, false, Some, option_map}
use Rattle.checking.specs.Input.{lines_in, is_blank}
use Rattle.checking.specs.Output.{bytes_of}
use Rattle.checking.specs.WalkLaws.{read_behind_blank, bad_behind_blank, read_with, bad_with}
use Rattle.beating.specs.Run.{events_of, said_from}
use Rattle.beating.specs.Kept.{said, after, said_by}
use Rattle.beating.specs.Lines.{event_view, event_of}
use Rattle.beating.specs.KeptLaws.{said_by-history}
use Rattle.beating.proofs.Steps.{written_event}
use Rattle.beating.proofs.run.run_lines.Goals.{then-not-is_blank+in_ok-event+in-Some+in_ok-act, else-not-is_blank}
use Rattle.beating.proofs.run.run_lines.Goals as goal

pub loop-rest-init : goal.loop-rest-init
loop-rest-init c = record {
  said = ap (λ vs. c.args.output.now.items ++ bytes_of vs) (said_by-history c.args.interval c.args.timeout (events_of (lines_in c.args.input.now)));
  bad = refl;
  number = omega arith;
}

pub loop-rest-preserved : goal.loop-rest-preserved
loop-rest-preserved c =
    let all = lines_in c.loop-rest.rest.now in
    let line = c.first_line.result.0.now in
    let more = lines_in c.first_line.result.1.now in
    let before = c.loop-rest.output.items in
    let whole = c.args.output.now.items ++ bytes_of (said_from c.args.interval c.args.timeout (events_of (lines_in c.args.input.now))) in
    let is : all ≡ line ∷ more = c.first_line.ensures.lines in
    elim c.if-not-is_blank.branch [
      | then-not-is_blank+in_ok-event+in-Some+in_ok-act w ↦
          let filled : is_blank line ≡ false = sym c.is_blank.ensures ∙ w.if-not-is_blank.true in
          let reads : event_of line ≡ Some (event_view w.in-Some.event) = sym w.in_ok-event.ensures ∙ ap (option_map event_view) w.in-Some.is in
          record {
            said =
                ap (λ (o : Vec ℕ Global). o.items ++ bytes_of (said_by c.args.interval c.args.timeout c.if-not-is_blank.heart (events_of more))) w.output-is
                ∙ (ap (λ h. w.act.new.output.items ++ bytes_of (said_by c.args.interval c.args.timeout h (events_of more))) w.heart-is
                ∙ written_event c.args.interval c.args.timeout c.loop-rest.heart w.act.new.heart w.act.new.output.items before whole (events_of all) (events_of more)
                (event_view w.in-Some.event) (read_with event_of all line more (Some (event_view w.in-Some.event)) is filled reads)
                (w.in_ok-act.ensures.heart ∙ ap (λ p. after p (event_view w.in-Some.event)) w.begun-going.ensures)
                (w.in_ok-act.ensures.said ∙ ap (λ p. before ++ bytes_of (said p (event_view w.in-Some.event))) w.begun-going.ensures)
                c.loop-rest.invariant.said);
            bad = sym (bad_with event_of c.loop-rest.number all line more (Some (event_view w.in-Some.event)) is filled reads) ∙ c.loop-rest.invariant.bad;
            number = omega (arith, c.loop-rest.invariant.number, c.first_line.ensures.shorter);
          }
      | else-not-is_blank w ↦
          let blank : is_blank line ≡ true = sym c.is_blank.ensures ∙ w.if-not-is_blank.false in
          record {
            said =
                ap (λ (o : Vec ℕ Global). o.items ++ bytes_of (said_by c.args.interval c.args.timeout c.if-not-is_blank.heart (events_of more))) w.output-is
                ∙ (ap (λ h. before ++ bytes_of (said_by c.args.interval c.args.timeout h (events_of more))) w.heart-is
                ∙ (ap (λ es. before ++ bytes_of (said_by c.args.interval c.args.timeout c.loop-rest.heart es)) (sym (read_behind_blank event_of all line more is blank))
                ∙ c.loop-rest.invariant.said));
            bad = sym (bad_behind_blank event_of c.loop-rest.number all line more is blank) ∙ c.loop-rest.invariant.bad;
            number = omega (arith, c.loop-rest.invariant.number, c.first_line.ensures.shorter);
          }
    ]
