use Rattle.std.proofs.Common.{◌≡◌, ◌+◌, [], ◌∷◌, ◌++◌, length, List, sym, ap, ◌∙◌, arith, rules}
use Rattle.std.proofs.lemmas.List.{length_push}
use Rattle.session_state.specs.Journal.{AJournal, Run, runs}
use Rattle.session_state.specs.Kept.{expanded, put_behind}
use Rattle.session_state.proofs.RunningLemmas.{runs_behind}
use Rattle.session_state.proofs.journal.Journal.push.Goals as goal

pub invariant_of-self : goal.invariant_of-self
invariant_of-self c =
    let old = c.self.inside in
    let lines = c.put.ensures.lines in
    let counts : c.push.new.self.items ≡ old.counts.items ++ c.args.count ∷ [] = search rules in
    let one : length (expanded c.put.new.records.items) ≡ length (expanded old.records.items) + 1 = ap length lines ∙ length_push (expanded old.records.items) c.args.line in
    let other : length c.push.new.self.items ≡ length old.counts.items + 1 = ap length counts ∙ length_push old.counts.items c.args.count in
    let room : length (expanded old.records.items) ≡ length c.args.self.now.lines = ap (λ (j : AJournal). length j.lines) c.self.view_is in
    record {
      whole =
          c.put.ensures.runs
          ∙ (ap (λ (rs : List Run). put_behind rs c.args.line) c.self.invariant.whole
          ∙ sym (ap runs lines ∙ runs_behind (expanded old.records.items) c.args.line));
      counted = omega (arith, one, other, c.self.invariant.counted);
      within = omega (arith, one, room, c.requires.fits);
      room = λ e. absurd (search rules);
    }
