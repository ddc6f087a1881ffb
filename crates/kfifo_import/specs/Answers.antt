-- What a call of a log answered.
use Rattle.std.specs.Prelude.{ℕ}
use Rattle.kfifo_model.specs.declared.calls.Answer.{Answer}
use Rattle.kfifo_model.specs.declared.calls.Answer.TheVariants.{Done, Full, Got, Empty, Busy, Worn}
use Rattle.kfifo_model.specs.declared.spellings.AnswerWord.{AnswerWord}
use Rattle.kfifo_model.specs.declared.spellings.AnswerWord.TheVariants as words

-- the answer of a put; for a word that no put returns stands Empty, which is none of a put's either
abbrev pub put_answer : AnswerWord → Answer
put_answer words.Done = Done
put_answer words.Full = Full
put_answer words.Got = Empty
put_answer words.Empty = Empty
put_answer words.Busy = Busy
put_answer words.Worn = Worn
put_answer words.Other = Empty

-- the answer of a get with this item; for a word that no get returns stands Done, which is none of a get's either
abbrev pub take_answer : AnswerWord → ℕ → Answer
take_answer words.Done item = Done
take_answer words.Full item = Done
take_answer words.Got item = Got item
take_answer words.Empty item = Empty
take_answer words.Busy item = Busy
take_answer words.Worn item = Worn
take_answer words.Other item = Done
