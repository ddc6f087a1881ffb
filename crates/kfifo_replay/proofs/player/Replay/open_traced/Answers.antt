-- A new replay stands for no pick.
use Rattle.std.proofs.Common.{◌≡◌, ◌≤◌, List, [], length, map, replicate, Vec, Global, refl, sym, ◌∙◌, ap, subst, arith}
use Rattle.std.proofs.lemmas.List.{length-map}
use Rattle.kfifo_replay.proofs.Types.{Begin}
use Rattle.kfifo_machine.specs.Calls.{blank}
use Rattle.kfifo_linear.specs.contracts.linearizer.Linearizer.{the_view}
use Rattle.kfifo_linear.specs.Following.{Follower, Follows}
use Rattle.kfifo_replay.specs.Scripts.{AreScripts, calls_in}
use Rattle.kfifo_replay.specs.Player.{StandsFor}
use Rattle.kfifo_replay.proofs.Opening.{few_calls, calls_in-map, stands_none}
use Rattle.kfifo_replay.proofs.player.Replay.open_traced.Goals as goal

-- the scripts by their calls
abbrev by_calls : List (Vec Begin Global) → List (List Begin)
by_calls scripts = map (λ (script : Vec Begin Global). script.items) scripts

pub count_calls-room-requires : goal.count_calls-room-requires
count_calls-room-requires c =
    let are : AreScripts c.args.shape (by_calls c.args.scripts.now) =
    c.are_scripts.ensures.0 c.if-not-are_scripts.false in
    omega (arith, few_calls c.args.shape (by_calls c.args.scripts.now) are, calls_in-map c.args.scripts.now)

-- what it holds
stands : (c : goal.In_ok-new-2) → StandsFor c.args.shape (by_calls c.args.scripts.now) []
    (record {
      shape = c.args.shape;
      scripts = by_calls c.in_ok-copy_scripts.field-0.items;
      follower = the_view c.linearizer.inside;
      begun = c.in_ok-vec.field-0.items;
      book = c.in_ok-new.field-0;
      rollbacks = 0;
      trace = c.in_ok-new-2.field-0;
    })
stands c =
    let are : AreScripts c.args.shape (by_calls c.args.scripts.now) =
    c.are_scripts.ensures.0 c.if-not-are_scripts.false in
    let size : length c.args.scripts.now ≡ length (by_calls c.args.scripts.now) =
    sym (length-map c.args.scripts.now (λ (script : Vec Begin Global). script.items)) in
    let calls : c.count_calls-room.result ≡ calls_in (by_calls c.args.scripts.now) =
    c.count_calls-room.ensures ∙ sym (calls_in-map c.args.scripts.now) in
    let follows : Follows (length c.args.scripts.now) c.count_calls-room.result [] c.in-Ok.linearizer =
    c.in-Ok.ensures.follows.1 in
    stands_none c.args.shape (by_calls c.args.scripts.now) _ are refl c.in_ok-copy_scripts.ensures
    (ap (λ (f : Follower). f.shape) c.linearizer.view_is ∙ c.in-Ok.ensures.follows.0)
    (subst (λ n. Follows n (calls_in (by_calls c.args.scripts.now)) [] (the_view c.linearizer.inside)) size
    (subst (λ n. Follows (length c.args.scripts.now) n [] (the_view c.linearizer.inside)) calls
    (subst (Follows (length c.args.scripts.now) c.count_calls-room.result []) (sym c.linearizer.view_is) follows)))
    (c.in_ok-vec.ensures.items_if_clones_equal (λ y is. is) ∙ ap (λ n. replicate n 0) size)
    (c.in_ok-new.ensures.log ∙ ap blank size)
    (subst (λ n. n ≤ c.in_ok-new.field-0.room) calls c.in_ok-new.ensures.room)
    refl c.in_ok-new-2.ensures.none

pub invariant_of-result-2 : goal.invariant_of-result-2
invariant_of-result-2 c = record {
  shape = c.args.shape;
  scripts = by_calls c.args.scripts.now;
  picks = [];
  stands = stands c;
}

pub returns-clause-opened : goal.returns-clause-opened
returns-clause-opened c = stands c
