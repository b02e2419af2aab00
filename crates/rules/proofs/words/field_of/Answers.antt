-- `rules::words::field_of` meets its contract: the table is `forms`, and the words are those that the form names.
-- Assumes nothing.
use Rattle.rules.proofs.Forms.{prefix_words, range_words, ports_words}
use Rattle.rules.proofs.words.field_of.Goals as goal

pub word_of-requires : goal.word_of-requires
word_of-requires c = let asked = c.requires in
    (asked.0, (prefix_words asked.1 c.in-Prefix.is).0)

pub word_of-requires-in-Prefix : goal.word_of-requires-in-Prefix
word_of-requires-in-Prefix c = let asked = c.requires in
    (asked.0, (prefix_words asked.1 c.in-Prefix.is).1)

pub word_of-requires-in-Range : goal.word_of-requires-in-Range
word_of-requires-in-Range c = let asked = c.requires in
    (asked.0, (range_words asked.1 c.in-Range.is).0)

pub word_of-requires-in-Range-2 : goal.word_of-requires-in-Range-2
word_of-requires-in-Range-2 c = let asked = c.requires in
    (asked.0, (range_words asked.1 c.in-Range.is).1)

pub word_of-requires-in-Ports : goal.word_of-requires-in-Ports
word_of-requires-in-Ports c = let asked = c.requires in
    (asked.0, (ports_words asked.1 c.in-Ports.is).0)

pub word_of-requires-in-Ports-2 : goal.word_of-requires-in-Ports-2
word_of-requires-in-Ports-2 c = let asked = c.requires in
    (asked.0, (ports_words asked.1 c.in-Ports.is).1)

pub returns-in-Prefix : goal.returns-in-Prefix
returns-in-Prefix c = rw (c.in-Prefix.is, ← c.word_of.ensures, ← c.word_of-in-Prefix.ensures)

pub returns-in-Range : goal.returns-in-Range
returns-in-Range c = rw (c.in-Range.is, ← c.word_of-in-Range.ensures, ← c.word_of-in-Range-2.ensures)

pub returns-in-Ports : goal.returns-in-Ports
returns-in-Ports c = rw (c.in-Ports.is, ← c.word_of-in-Ports.ensures, ← c.word_of-in-Ports-2.ensures)
