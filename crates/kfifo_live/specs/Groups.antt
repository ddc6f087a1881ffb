-- A group: passes of a queue of tokens that make no call any more, and the one schedule that has what all of them did.
use Rattle.std.specs.Prelude.{◌≡◌, ◌++◌, ℕ, List, [], ◌∷◌, None, Option, map}
use Rattle.std.specs.List.{AllByRecursion}
use Rattle.atomic_table.specs.Seated.{TableId}
use Rattle.atomic_table.specs.Table.{Me}
use Rattle.kfifo_live.specs.declared.view.Opening.{Opening}
use Rattle.kfifo_live.specs.declared.view.Part.{Part}
use Rattle.kfifo_live.specs.declared.view.View.{View}
use Rattle.kfifo_live.specs.Pass.{AllIdle, HaveComeOut, IsSamePass, PassKeepsPromise, PassView, WasSealedEmpty}
use Rattle.kfifo_live.specs.Payloads.{EndsIn, PayPassView, passes_of, pay_pass_view}
use Rattle.kfifo_live.specs.Schedule.{AllBegin, AllGiven, GiftsFit, IsSmall, gifts_of, hand_of, more_in, part, seen_of}
use Rattle.kfifo_live.specs.Step.{IsAt}

-- a group: its first pass, whose schedule is that of the group, and the others as they were when they joined
pub record GroupView (T : Type 0) : Type 0 where
  pub first : PayPassView T
  pub others : List (PayPassView T)

module _ {T : Type 0} where
  -- the threads of these passes
  abbrev pub threads_of : List (PayPassView T) → List ℕ
  threads_of ps = map (λ p. p.pass.thread) ps

  -- in a queue that was sealed empty, what these passes put is there no more after what this one has seen
  abbrev pub LeaveNothing : List (PayPassView T) → PassView → Type 0
  LeaveNothing ps p = WasSealedEmpty p → HaveComeOut (threads_of ps) p

  -- A group has met a pass of its queue. Its schedule keeps the promise, goes on from what it was, begins with what the
  -- pass and each of the group had seen, and has no further event of theirs. What they put into a queue that was sealed
  -- empty is there no more
  pub record Meets (p : PayPassView T) (old new : GroupView T) : Type 0 where
    pub same : IsSamePass old.first.pass new.first.pass
    pub others : new.others ≡ old.others
    pub later : EndsIn new.first.pass.seen new.first.gifts old.first
    pub ends : AllByRecursion (EndsIn new.first.pass.seen new.first.gifts) (old.others ++ p ∷ [])
    pub promise : PassKeepsPromise new.first.pass
    pub nothing : LeaveNothing (old.first ∷ (old.others ++ p ∷ [])) new.first.pass

  -- the pass of a part, as its seat has it
  abbrev pub member : TableId → Opening → Part T → PayPassView T
  member table o p = record {
    pass = record { table = table; opened = o; thread = p.thread; seen = p.seen };
    tokens = p.hand.at_home;
    gifts = p.gifts;
  }

  abbrev pub group_view : TableId → ℕ → View T → GroupView T
  group_view table thread v = record {
    first = pay_pass_view table thread v;
    others = map (member table v.opened) (more_in v.parts);
  }

  -- What is always so of a group: its first pass is in no call and holds no slot. Its schedule begins with what each
  -- other pass has seen, and has no further event of that one, which is in no call either
  pub record IsGroup (thread : ℕ) (table : TableId) (me : Me (Option T) (View T)) : Type 0 where
    pub parts : me.0.parts ≡ part thread (seen_of me.0) (gifts_of me.0) (hand_of me.0) ∷ more_in me.0.parts
    pub held : me.1 ≡ []
    pub idle : IsAt None me
    pub few : IsSmall me.0.opened
    pub in_turn : GiftsFit me.0.opened (seen_of me.0) (gifts_of me.0)
    pub begin : AllBegin (more_in me.0.parts) (seen_of me.0)
    pub given : AllGiven (more_in me.0.parts) (gifts_of me.0)
    pub all_idle : AllIdle me.0.opened (passes_of (map (member table me.0.opened) (more_in me.0.parts)))
