-- The linearizer has then followed the schedule with this event.
use Rattle.std.proofs.Common.{◌≡◌, ℕ, List, ◌∷◌, ◌++◌, [], true, subst, sym, ap, ◌∙◌, ◌<◌, length}
use Rattle.kfifo_linear.proofs.Types.{Event}
use Rattle.kfifo_machine.specs.Machine.{place_of, word_at}
use Rattle.kfifo_linear.specs.Notes.{begins_call, action_at, fed, noted_event}
use Rattle.kfifo_linear.specs.Following.{Follower, Follows, follower}
use Rattle.kfifo_linear.proofs.Linearizing.{can_feed, feeds, follower_ends}
use Rattle.kfifo_linear.proofs.linearizer.Linearizer.feed.Goals as goal

pub note-requires-clause-ends : goal.note-requires-clause-ends
note-requires-clause-ends c =
    let f : Follower = follower c.self.inside.state.shape c.self.inside.state.world c.self.inside.notes in
    rw (c.shape-shape.ensures, c.of_bits-ends.ensures, c.word.ensures) (follower_ends f c.self.invariant)

pub note-requires-clause-thread : goal.note-requires-clause-thread
note-requires-clause-thread c = (can_feed _ _ _ c.args.event c.self.invariant c.in_ok-outcome.ensures.made).thread

pub note-requires-clause-call : goal.note-requires-clause-call
note-requires-clause-call c = (can_feed _ _ _ c.args.event c.self.invariant c.in_ok-outcome.ensures.made).call

pub note-requires-clause-room : goal.note-requires-clause-room
note-requires-clause-room c =
    let action : c.next_action-action.result ≡ action_at c.self.inside.state.shape c.self.inside.state.world
    (place_of c.self.inside.state.world c.args.event.thread)
    = c.next_action-action.ensures
    ∙ ap (λ (f : Follower). action_at f.shape f.world (place_of f.world c.args.event.thread))
    (sym c.self.view_is) in
    rw (c.shape-shape.ensures, action) (can_feed _ _ _ c.args.event c.self.invariant c.in_ok-outcome.ensures.made).room

notes_are : (c : goal.After-note) → c.note.new.self
    ≡ fed c.self.inside.state.shape c.self.inside.state.world c.args.event c.in_ok-outcome.outcome c.self.inside.notes
notes_are c =
    let action : c.next_action-action.result ≡ action_at c.self.inside.state.shape c.self.inside.state.world
    (place_of c.self.inside.state.world c.args.event.thread)
    = c.next_action-action.ensures
    ∙ ap (λ (f : Follower). action_at f.shape f.world (place_of f.world c.args.event.thread))
    (sym c.self.view_is) in
    let ends : c.of_bits-ends.result ≡ word_at c.self.inside.state.world 0 = c.of_bits-ends.ensures ∙ c.word.ensures in
    c.note.ensures
    ∙ ap (λ s. noted_event s c.args.event.thread c.args.event.begin c.of_bits-ends.result c.next_action-action.result
    c.in_ok-outcome.outcome c.self.inside.notes) c.shape-shape.ensures
    ∙ ap (λ w. noted_event c.self.inside.state.shape c.args.event.thread c.args.event.begin w
    c.next_action-action.result
    c.in_ok-outcome.outcome c.self.inside.notes) ends
    ∙ ap (λ d. noted_event c.self.inside.state.shape c.args.event.thread c.args.event.begin
    (word_at c.self.inside.state.world 0) d
    c.in_ok-outcome.outcome c.self.inside.notes) action

followed : (c : goal.After-note) (threads room : ℕ) (events : List Event) → Follows threads room events c.args.self.now
    → Follows threads room (events ++ c.args.event ∷ []) (follower c.step.new.state.shape c.step.new.state.world
    c.note.new.self)
followed c threads room events h =
    let f : Follower = follower c.self.inside.state.shape c.self.inside.state.world c.self.inside.notes in
    feeds f c.step.new.state.shape c.step.new.state.world c.note.new.self c.in_ok-outcome.outcome c.args.event threads
    room events
    (subst (Follows threads room events) (sym c.self.view_is) h) c.step.ensures.shape c.in_ok-outcome.ensures.made
    (notes_are c)
    (subst (λ (g : Follower). begins_call c.args.event.begin ≡ true → g.notes.begun < length g.notes.calls)
    (sym c.self.view_is)
    c.requires.room)

pub invariant_of-self-2 : goal.invariant_of-self-2
invariant_of-self-2 c = record {
  threads = c.self.invariant.threads;
  room = c.self.invariant.room;
  events = c.self.invariant.events ++ c.args.event ∷ [];
  follows = followed c c.self.invariant.threads c.self.invariant.room c.self.invariant.events
      (subst (Follows c.self.invariant.threads c.self.invariant.room c.self.invariant.events) c.self.view_is
      c.self.invariant.follows);
}

pub returns-clause-follows : goal.returns-clause-follows
returns-clause-follows c threads room events h = followed c threads room events h
