use Rattle.world_core.proofs.words.answer_lines.Goals as goal

pub returns-in-JournalFull : goal.returns-in-JournalFull
returns-in-JournalFull c = rw c.in-JournalFull.is c.word_line-in-JournalFull.ensures

pub returns-in-QueueFull : goal.returns-in-QueueFull
returns-in-QueueFull c = rw c.in-QueueFull.is c.word_line-in-QueueFull.ensures
