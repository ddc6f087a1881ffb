-- There are sizes for the capacity, and all handles have joined a generation of these.
use Rattle.std.proofs.Common.{◌≡◌, length, ◌∙◌, subst, true}
use Rattle.std.specs.Prelude.{◌==◌, ◌&&◌, not}
use Rattle.kfifo_live.specs.declared.tokens.sizes.Sizes.{Sizes}
use Rattle.kfifo_renewing.specs.Renewing.{HaveOne, OpensMore, may_open_more, opening_with}
use Rattle.kfifo_renewing.specs.declared.queue.TheConstants.{NO_RENEWAL}
use Rattle.kfifo_renewing.proofs.opening.open_for.Goals as goal

pub returns-in-Ok-open_first-clause-opens : goal.returns-in-Ok-open_first-clause-opens
returns-in-Ok-open_first-clause-opens g c =
    let handles = c.in-Ok-open_first.handles.items in
    let sizes = c.in-Ok.ensures.sizes in
    let opened = subst (λ (s : Sizes). HaveOne (opening_with g.K.Kind.bare s) handles × (length handles ≡ s.threads))
    c.hold_again.ensures
    c.in-Ok-open_first.ensures.one in (
      sizes.0,
      record {
        sizes = c.in-Ok.sizes;
        k_is = sizes.3;
        segments_are = sizes.4;
        last_is = sizes.5;
        probes_are = sizes.6;
        threads_are = sizes.1;
        tokens_are = sizes.2;
        room = c.in-Ok.ensures.room;
        have_one = opened.0;
        count = opened.1 ∙ sizes.1;
      },
    )

pub returns-in-Ok-open_first-clause-more : goal.returns-in-Ok-open_first-clause-more
returns-in-Ok-open_first-clause-more g c =
    let more : may_open_more c.none.result ≡ true =
    (λ i. not ((c.none.ensures.0 i == NO_RENEWAL) && (c.none.ensures.1 i == 1))) in
    subst (λ b. OpensMore b c.in-Ok-open_first.handles.items) more c.in-Ok-open_first.ensures.more
