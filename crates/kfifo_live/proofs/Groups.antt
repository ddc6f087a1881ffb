-- A group meets a pass, and the pass joins it.
use Rattle.std.proofs.Common.{◌≡◌, ◌++◌, ◌<◌, ℕ, List, [], ◌∷◌, None, Option, Some, ap, drop, length, map, refl}
use Rattle.std.proofs.Common.{sym, take}
use Rattle.std.proofs.Common.{◌∙◌, subst}
use Rattle.std.specs.List.{AllByRecursion}
use Rattle.std.proofs.lemmas.List.{append-nil, map-append}
use Rattle.atomic_table.specs.Seated.{TableId}
use Rattle.atomic_table.specs.Table.{Me}
use Rattle.kfifo_machine.specs.declared.event.Event.{Event}
use Rattle.kfifo_machine.specs.Machine.{World, place_of}
use Rattle.kfifo_machine.specs.Runs.{Begins}
use Rattle.kfifo_machine.proofs.Schedules.{Some-injective}
use Rattle.kfifo_live.specs.Groups.{IsGroup, LeaveNothing, group_view, member, threads_of}
use Rattle.kfifo_live.specs.Hands.{Gifts}
use Rattle.kfifo_live.specs.Pass.{AllIdle, AllSeen, HaveComeOut, IsPass, PassView, pass_view}
use Rattle.kfifo_live.specs.Payloads.{EndsIn, PayPassView, passes_of, pay_pass_view}
use Rattle.kfifo_live.specs.Schedule.{AllBegin, AllGiven, GiftsFit, IsSmall, both_parts, first_part, gifts_of, hand_of}
use Rattle.kfifo_live.specs.Schedule.{more_in, other_parts, part, seen_of, thread_in, thread_of, view_of}
use Rattle.kfifo_live.specs.Schedule.{world_after}
use Rattle.kfifo_live.specs.Step.{Looks}
use Rattle.kfifo_live.specs.declared.view.Opening.{Opening}
use Rattle.kfifo_live.specs.declared.view.Part.{Part}
use Rattle.kfifo_live.proofs.Types.{View}
use Rattle.kfifo_live.proofs.ClosedEmpty.{come_out}
use Rattle.kfifo_live.proofs.Gathered.{pass_idle, pays_idle_push}
use Rattle.kfifo_live.proofs.Passes.{idle_on}

pub begins-all : (thread : ℕ) (xs : List Event) → Begins thread xs xs
begins-all thread xs = record { rest = []; goes_on = sym (append-nil xs); no_own = refl }

module _ {T : Type 0} where
  -- the parts of a schedule end in it
  pub ends_all : (table : TableId) (o : Opening) (ps : List (Part T)) (all : List Event) (gifts : Gifts T)
      → AllBegin ps all → AllGiven ps gifts → AllByRecursion (EndsIn all gifts) (map (member table o) ps)
  ends_all table o [] all gifts b g = tt
  ends_all table o (p ∷ ps) all gifts b g = ((b.0, g.0), ends_all table o ps all gifts b.1 g.1)

  -- the part of a pass, and the first one of a group
  abbrev its : ℕ → Me (Option T) (View T) → Part T
  its thread me = part thread (seen_of me.0) (gifts_of me.0) (hand_of me.0)

  -- the parts of a group with that of a pass behind the first, as they are for a look
  pub lent_parts : (thread other : ℕ) (table : TableId) (old mine : Me (Option T) (View T))
      (whole rest lent both : View T) → IsGroup thread table old → IsPass other mine → whole ≡ mine.0
      → rest ≡ other_parts old.0 → lent ≡ both_parts whole rest → both ≡ both_parts (first_part old.0) lent
      → both ≡ view_of old.0.opened (its thread old ∷ its other mine ∷ more_in old.0.parts)
  lent_parts thread other table old mine whole rest lent both g p whole_is rest_is lent_is is =
      let behind : lent.parts ≡ its other mine ∷ more_in old.0.parts = ap (λ (v : View T). v.parts) lent_is
      ∙ (λ i. (ap (λ (v : View T). v.parts) whole_is ∙ p.alone) i
      ++ (ap (λ (v : View T). v.parts) rest_is ∙ ap (λ (ps : List (Part T)). drop 1 ps) g.parts) i) in
      is ∙ (λ i. view_of old.0.opened (take 1 (g.parts i) ++ behind i))

  -- after the look the group has its other parts back
  pub parts_back : (thread other word : ℕ) (old mine : Me (Option T) (View T)) (both seen back new : View T)
      → both ≡ view_of old.0.opened (its thread old ∷ its other mine ∷ more_in old.0.parts)
      → (l : Looks 0 word both seen) → back ≡ other_parts seen → new ≡ both_parts (first_part seen) (other_parts back)
      → new ≡ view_of old.0.opened (part thread l.all l.gifts (hand_of old.0) ∷ more_in old.0.parts)
  parts_back thread other word old mine both seen back new is l back_is new_is =
      let whole : View T = view_of old.0.opened (part thread l.all l.gifts (hand_of old.0) ∷ its other mine
      ∷ more_in old.0.parts) in
      let view : seen ≡ whole = l.afterwards
      ∙ (λ i. view_of (is i).opened (part (thread_in (is i).parts) l.all l.gifts (hand_of (is i))
      ∷ more_in (is i).parts)) in
      new_is ∙ (λ i. both_parts (first_part (view i)) (other_parts (back_is i)))
      ∙ ap (λ (v : View T). both_parts (first_part whole) (other_parts (other_parts v))) view

  -- A group has seen what a pass has: its schedule begins with what the pass, its first one and the others had seen,
  -- and has no further event of theirs
  pub record HasMet (thread other : ℕ) (table : TableId) (old mine new : Me (Option T) (View T)) : Type 0 where
    pub group : IsGroup thread table new
    pub opened : new.0.opened ≡ old.0.opened
    pub same : (group_view table thread new.0).others ≡ (group_view table thread old.0).others
    pub pass : EndsIn (seen_of new.0) (gifts_of new.0) (pay_pass_view table other mine.0)
    pub first : EndsIn (seen_of new.0) (gifts_of new.0) (pay_pass_view table thread old.0)
    pub others : AllByRecursion (EndsIn (seen_of new.0) (gifts_of new.0)) (group_view table thread old.0).others

  -- what a look tells of a group beside the part of a pass, of which it is then rid
  pub has_met : (thread other word : ℕ) (table : TableId) (old mine new : Me (Option T) (View T))
      (both seen : View T) → IsGroup thread table old
      → both ≡ view_of old.0.opened (its thread old ∷ its other mine ∷ more_in old.0.parts)
      → (l : Looks 0 word both seen)
      → new.0 ≡ view_of old.0.opened (part thread l.all l.gifts (hand_of old.0) ∷ more_in old.0.parts) → new.1 ≡ old.1
      → HasMet thread other table old mine new
  has_met thread other word table old mine new both seen g is l view held =
      let o = old.0.opened in
      let b = subst (λ (qs : List (Part T)). AllBegin qs l.all) (ap (λ (v : View T). v.parts) is) l.begin in
      let gs = subst (λ (qs : List (Part T)). AllGiven qs l.gifts) (ap (λ (v : View T). v.parts) is) l.given in
      let opened : both.opened ≡ o = ap (λ (v : View T). v.opened) is in
      let first : thread_of old.0 ≡ thread = ap thread_in g.parts in
      let there : world_after o l.all ≡ Some l.world = ap (λ x. world_after x l.all) (sym opened) ∙ l.reached in
      let on = idle_on o thread (seen_of old.0) l.all g.idle.here l.world g.idle.reached
      (subst (λ t. t < length g.idle.here.places) first g.idle.within)
      (ap (λ t. place_of g.idle.here t) (sym first) ∙ g.idle.place_is) b.0 there in
      subst (λ (x : View T). HasMet thread other table old mine (x, new.1)) (sym view) (record {
        group = record {
          parts = refl;
          held = held ∙ g.held;
          idle = record {
            here = l.world;
            seated = refl;
            reached = there;
            within = on.0;
            place_is = on.1;
            carries = (g.idle.carries.0, held ∙ g.idle.carries.1);
          };
          few = g.few;
          in_turn = subst (λ x. GiftsFit x l.all l.gifts) opened l.in_turn;
          begin = b.1.1;
          given = gs.1.1;
          all_idle = g.all_idle;
        };
        opened = refl;
        same = refl;
        pass = (b.1.0, gs.1.0);
        first = (b.0, gs.0);
        others = ends_all table o (more_in old.0.parts) l.all l.gifts b.1.1 gs.1.1;
      })

  -- each of these parts and one more is idle
  idle_more : (table : TableId) (o : Opening) (ps : List (Part T)) (p : Part T)
      → AllIdle o (passes_of (map (member table o) ps))
      → ((here : World) → world_after o p.seen ≡ Some here → place_of here p.thread ≡ None)
      → AllIdle o (passes_of (map (member table o) (ps ++ p ∷ [])))
  idle_more table o ps p idle mine =
      subst (λ l. AllIdle o (passes_of l)) (sym (map-append (member table o) ps (p ∷ [])))
      (pays_idle_push o (map (member table o) ps) (member table o p) idle mine)

  begin_more : (ps : List (Part T)) (p : Part T) (all : List Event) → AllBegin ps all → Begins p.thread p.seen all
      → AllBegin (ps ++ p ∷ []) all
  begin_more [] p all b mine = (mine, tt)
  begin_more (q ∷ ps) p all b mine = (b.0, begin_more ps p all b.1 mine)

  given_more : (ps : List (Part T)) (p : Part T) (gifts : Gifts T) → AllGiven ps gifts
      → ((more : Gifts T) × (gifts ≡ p.gifts ++ more)) → AllGiven (ps ++ p ∷ []) gifts
  given_more [] p gifts g mine = (mine, tt)
  given_more (q ∷ ps) p gifts g mine = (g.0, given_more ps p gifts g.1 mine)

  -- the part of a pass that a group has met is put behind its parts
  pub joined : (thread other : ℕ) (table : TableId) (old mine new : Me (Option T) (View T)) → IsGroup thread table old
      → IsPass other mine → mine.0.opened ≡ old.0.opened
      → EndsIn (seen_of old.0) (gifts_of old.0) (pay_pass_view table other mine.0)
      → new.0 ≡ both_parts old.0 mine.0 → new.1 ≡ old.1
      → IsGroup thread table new × (new.0 ≡ view_of old.0.opened (its thread old ∷ (more_in old.0.parts
      ++ its other mine ∷ [])))
  joined thread other table old mine new g p same ends is held =
      let o = old.0.opened in
      let more = more_in old.0.parts in
      let view : new.0 ≡ view_of o (its thread old ∷ (more ++ its other mine ∷ [])) =
      is ∙ (λ i. view_of o (g.parts i ++ p.alone i)) in (
        subst (λ (x : View T). IsGroup thread table (x, new.1)) (sym view) (record {
          parts = refl;
          held = held ∙ g.held;
          idle = record {
            here = g.idle.here;
            seated = refl;
            reached = g.idle.reached;
            within = subst (λ t. t < length g.idle.here.places) (ap thread_in g.parts) g.idle.within;
            place_is = ap (λ t. place_of g.idle.here t) (sym (ap thread_in g.parts)) ∙ g.idle.place_is;
            carries = (g.idle.carries.0, held ∙ g.idle.carries.1);
          };
          few = g.few;
          in_turn = g.in_turn;
          begin = begin_more more (its other mine) (seen_of old.0) g.begin ends.0;
          given = given_more more (its other mine) (gifts_of old.0) g.given ends.1;
          all_idle = idle_more table o more (its other mine) g.all_idle
              (pass_idle o other mine (pass_view table other mine.0) p same refl refl);
        }),
        view,
      )

  -- a pass alone is a group
  pub group_alone : (thread : ℕ) (table : TableId) (me : Me (Option T) (View T)) → IsPass thread me
      → GiftsFit me.0.opened (seen_of me.0) (gifts_of me.0) → IsGroup thread table me
  group_alone thread table me p fits =
      let its : Part T = part thread (seen_of me.0) (gifts_of me.0) (hand_of me.0) in
      record {
        parts = subst (λ ps. ps ≡ its ∷ more_in ps) (sym p.alone) refl;
        held = p.held;
        idle = p.idle;
        few = p.few;
        in_turn = fits;
        begin = subst (λ ps. AllBegin (more_in ps) (seen_of me.0)) (sym p.alone) tt;
        given = subst (λ ps. AllGiven (more_in ps) (gifts_of me.0)) (sym p.alone) tt;
        all_idle = subst (λ ps. AllIdle me.0.opened (passes_of (map (member table me.0.opened) (more_in ps))))
            (sym p.alone) tt;
      }

  threads-of : (ps : List (PayPassView T)) → map (λ p. p.thread) (passes_of ps) ≡ threads_of ps
  threads-of [] = refl
  threads-of (p ∷ ps) = ap (λ l. p.pass.thread ∷ l) (threads-of ps)

  -- what passes that make no call leave in a queue that was sealed empty, by the schedule of one that has seen it all
  pub leave_nothing : (ps : List (PayPassView T)) (p : PassView) (world : World) → IsSmall p.opened
      → world_after p.opened p.seen ≡ Some world → AllSeen (passes_of ps) p.seen → AllIdle p.opened (passes_of ps)
      → LeaveNothing ps p
  leave_nothing ps p world few reached seen idle sealed =
      subst (λ ts. HaveComeOut ts p) (threads-of ps) (come_out p (passes_of ps) world few.0 reached seen idle sealed)

  pub ends_more : (all : List Event) (gifts : Gifts T) (ps : List (PayPassView T)) (p : PayPassView T)
      → AllByRecursion (EndsIn all gifts) ps → EndsIn all gifts p → AllByRecursion (EndsIn all gifts) (ps ++ p ∷ [])
  ends_more all gifts [] p ends mine = (mine, tt)
  ends_more all gifts (q ∷ ps) p ends mine = (ends.0, ends_more all gifts ps p ends.1 mine)

  seen_of_ends : (all : List Event) (gifts : Gifts T) (ps : List (PayPassView T)) → AllByRecursion (EndsIn all gifts) ps
      → AllSeen (passes_of ps) all
  seen_of_ends all gifts [] ends = tt
  seen_of_ends all gifts (p ∷ ps) ends = (ends.0.0, seen_of_ends all gifts ps ends.1)

  -- what a group and a pass that it has met leave in a queue that was sealed empty
  pub none_left : (thread other : ℕ) (table home : TableId) (old mine new : Me (Option T) (View T))
      → IsGroup thread table old → IsPass other mine → mine.0.opened ≡ old.0.opened
      → HasMet thread other table old mine new
      → LeaveNothing (pay_pass_view table thread old.0 ∷ ((group_view table thread old.0).others
      ++ pay_pass_view home other mine.0 ∷ [])) (pass_view table thread new.0)
  none_left thread other table home old mine new g p same m =
      let o = old.0.opened in
      let others = (group_view table thread old.0).others in
      let q = pay_pass_view home other mine.0 in
      let all : List (PayPassView T) = pay_pass_view table thread old.0 ∷ (others ++ q ∷ []) in
      let idle : AllIdle o (passes_of all) = (
        λ here reached.
            let at : g.idle.here ≡ here = Some-injective g.idle.here here (sym g.idle.reached ∙ reached) in
            (λ k. place_of (sym at k) (sym (ap thread_in g.parts) k)) ∙ g.idle.place_is,
        pays_idle_push o others q g.all_idle (pass_idle o other mine q.pass p same refl refl),
      ) in
      leave_nothing all (pass_view table thread new.0) m.group.idle.here m.group.few m.group.idle.reached
      (seen_of_ends (seen_of new.0) (gifts_of new.0) all
      (m.first, ends_more (seen_of new.0) (gifts_of new.0) others q m.others m.pass))
      (subst (λ (x : Opening). AllIdle x (passes_of all)) (sym m.opened) idle)
