use Rattle.script.proofs.WordLemmas.{whole, torn}
use Rattle.script.proofs.words.words_of.Goals as goal

pub returns-then-has_empty_word : goal.returns-then-has_empty_word
returns-then-has_empty_word c = torn c.args.line.now c.in_ok-words.words.items _ c.in_ok-words.ensures (rw c.deref.ensures.value at c.has_empty_word.ensures) c.if-has_empty_word.true

pub returns : goal.returns
returns c = whole c.args.line.now c.in_ok-words.words.items _ c.in_ok-words.ensures (rw c.deref.ensures.value at c.has_empty_word.ensures) c.if-has_empty_word.false
