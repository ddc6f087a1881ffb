-- The word that a thread's step will find is one of the table, and when it reloads the ends that of the ends.
use Rattle.std.proofs.Common.{◌≡◌, ap, ◌∙◌, arith}
use Rattle.kfifo_machine.specs.Machine.{place_of, word_at}
use Rattle.kfifo_machine.specs.Program.{access, accessed}
use Rattle.kfifo_machine.proofs.Places.{in_table}
use Rattle.kfifo_linear.specs.Ledger.{action}
use Rattle.kfifo_linear.specs.Notes.{action_at}
use Rattle.kfifo_linear.specs.Following.{Follower, follower}
use Rattle.kfifo_linear.proofs.Linearizing.{finds_ends, follower_ends}
use Rattle.kfifo_linear.proofs.linearizer.Linearizer.next_action.Goals as goal

pub word-word-requires : goal.word-word-requires
word-word-requires c =
    let index : c.index.result ≡ accessed (access c.self.inside.state.shape c.in-Some.running) =
    c.index.ensures ∙ ap accessed (c.access.ensures ∙ ap (λ s. access s c.in-Some.running) c.shape-shape.ensures) in
    omega (arith, index, in_table c.self.inside.state.shape c.in-Some.running c.in-Some.ensures.sound)

pub of-requires-clause-word : goal.of-requires-clause-word
of-requires-clause-word c =
    let index : c.index.result ≡ accessed (access c.self.inside.state.shape c.in-Some.running) =
    c.index.ensures ∙ ap accessed (c.access.ensures ∙ ap (λ s. access s c.in-Some.running) c.shape-shape.ensures) in
    let word : c.of_bits.result
    ≡ word_at c.self.inside.state.world (accessed (access c.self.inside.state.shape c.in-Some.running)) =
    c.of_bits.ensures ∙ c.word-word.ensures ∙ ap (word_at c.self.inside.state.world) index in
    let f : Follower = follower c.self.inside.state.shape c.self.inside.state.world c.self.inside.notes in
    rw (c.shape-shape.ensures, word) (finds_ends c.self.inside.state.shape c.in-Some.running _
    (λ zero. rw zero (follower_ends f c.self.invariant)))

pub returns-in-Some : goal.returns-in-Some
unfolding Rattle.kfifo_machine.specs.Machine.found
returns-in-Some c =
    let index : c.index.result ≡ accessed (access c.self.inside.state.shape c.in-Some.running) =
    c.index.ensures ∙ ap accessed (c.access.ensures ∙ ap (λ s. access s c.in-Some.running) c.shape-shape.ensures) in
    let word : c.of_bits.result
    ≡ word_at c.self.inside.state.world (accessed (access c.self.inside.state.shape c.in-Some.running)) =
    c.of_bits.ensures ∙ c.word-word.ensures ∙ ap (word_at c.self.inside.state.world) index in
    c.of.ensures ∙ ap (λ s. action s c.in-Some.running c.of_bits.result) c.shape-shape.ensures
    ∙ ap (action c.self.inside.state.shape c.in-Some.running) word
    ∙ ap (action_at c.self.inside.state.shape c.self.inside.state.world) c.in-Some.ensures.place
    ∙ ap (λ (f : Follower). action_at f.shape f.world (place_of f.world c.args.thread)) c.self.view_is
