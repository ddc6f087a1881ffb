-- The step accesses a word of the table.
use Rattle.std.proofs.Common.{◌≡◌, ◌∙◌, ap, arith, sym}
use Rattle.kfifo_machine.specs.Machine.{word_at}
use Rattle.kfifo_machine.specs.Program.{access, accessed}
use Rattle.kfifo_machine.proofs.Places.{in_table}
use Rattle.kfifo_replay.proofs.steps.look.Goals as goal

pub word-requires : goal.word-requires
word-requires c =
    let index : c.index.result ≡ accessed (access c.args.linearizer.now.shape c.in-Some.place) =
    c.index.ensures ∙ ap accessed (c.access-access.ensures ∙ ap (λ s. access s c.in-Some.place) c.requires.shape) in
    omega (arith, index, in_table c.args.linearizer.now.shape c.in-Some.place c.in-Some.ensures.sound)

pub returns : goal.returns
returns c =
    let does : c.access-access.result ≡ access c.args.linearizer.now.shape c.in-Some.place =
    c.access-access.ensures ∙ ap (λ s. access s c.in-Some.place) c.requires.shape in
    let index : accessed c.access-access.result ≡ accessed (access c.args.linearizer.now.shape c.in-Some.place) =
    ap accessed does in
    record {
      place = sym c.place_before.ensures.place ∙ c.in-Some.is;
      does = does;
      within = omega (arith, index, in_table c.args.linearizer.now.shape c.in-Some.place c.in-Some.ensures.sound);
      before = c.of_bits-before.ensures ∙ c.word.ensures ∙ ap (word_at c.args.linearizer.now.world) c.index.ensures;
    }
