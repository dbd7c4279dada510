use Rattle.std.proofs.Common.{◌≡◌, ℕ, map, take}
use Rattle.merge_box.specs.State.{KeptDocs}
use Rattle.merge_box.specs.Words.{NewsList, seen_in, said_all, AreWords}
use Rattle.session_core.specs.Known.{text_about, AreRight, AreLearnt}
use Rattle.session_core.proofs.adding.word_texts.Given as goal

abbrev pub invariant-loop-word : goal.invariant-loop-word
invariant-loop-word l = (sub : ℕ) (box : KeptDocs) (news : NewsList) → AreRight sub box news l.initial.known → AreWords sub box news l.initial.known l.plan
    → (l.texts.items ≡ map text_about (said_all (seen_in box) news (take l.word-index l.plan))) × AreLearnt sub box news l.initial.known l.known
