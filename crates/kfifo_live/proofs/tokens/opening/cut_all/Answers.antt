-- Each token is cut off in turn.
use Rattle.std.proofs.Common.{◌≡◌, ◌+◌, ◌-◌, ◌<◌, ◌*◌, [], ◌∷◌, ◌++◌, ap, sym, refl, subst, ◌∙◌, arith}
use Rattle.std.proofs.lemmas.List.{append_assoc, append-nil}
use Rattle.kfifo_live.proofs.Types.{Opening}
use Rattle.kfifo_live.specs.Schedule.{count_up, hand_of, next_of, resting_view, with_home}
use Rattle.kfifo_live.specs.Pass.{queue_of}
use Rattle.kfifo_live.specs.Tokens.{tokens_from}
use Rattle.kfifo_live.proofs.Minting.{count_first}
use Rattle.kfifo_live.proofs.Minting.{cut_on, idle_home, seated_home, tokens_from-snoc}
use Rattle.kfifo_live.proofs.tokens.opening.cut_all.Goals as goal

pub loop-index-init : goal.loop-index-init
loop-index-init g c = record {
  table = refl;
  view = seated_home c.requires.idle.0.seated (c.requires.home ∙ (λ i.
      count_up ((let e : c.args.first ≡ c.args.first + 0 = omega arith in e) i)
      ((let e : c.args.count ≡ c.args.count - 0 = omega arith in e) i)));
  cut = sym (append-nil c.args.tokens.now.items);
  within = omega arith;
}

pub cut_token-alone-requires-clause-table : goal.cut_token-alone-requires-clause-table
cut_token-alone-requires-clause-table g c =
    (c.loop-index.invariant.table ∙ c.requires.table.0, (let less = c.requires.table.1 in omega arith))

pub cut_token-alone-requires-clause-idle : goal.cut_token-alone-requires-clause-idle
cut_token-alone-requires-clause-idle g c =
    let view = c.loop-index.invariant.view in (
      idle_home (count_up (c.args.first + c.loop-index.index) (c.args.count - c.loop-index.index)) c.requires.idle.0
          view,
      subst (λ (o : Opening). 0 < o.tokens) (sym (ap (λ m. m.0.opened) view)) c.requires.idle.1,
    )

pub cut_token-alone-requires-clause-some : goal.cut_token-alone-requires-clause-some
cut_token-alone-requires-clause-some g c =
    let less = c.loop-index-test.true in (
      _,
      _,
      ap (λ m. (hand_of m.0).at_home) c.loop-index.invariant.view
          ∙ count_first (c.args.first + c.loop-index.index) (c.args.count - c.loop-index.index)
          (λ none. omega (arith, less)),
    )

pub new-requires-clause-table : goal.new-requires-clause-table
new-requires-clause-table g c = (
  c.cut_token-alone.ensures.resting.0 ∙ c.loop-index.invariant.table ∙ c.requires.table.0,
  c.requires.table.1,
)

pub new-requires-clause-slots : goal.new-requires-clause-slots
new-requires-clause-slots g c =
    let opened = ap (λ m. m.0.opened) c.cut_token-alone.ensures.resting.1
    ∙ ap (λ m. m.0.opened) c.loop-index.invariant.view in (
      subst (λ (o : Opening). 0 < o.tokens) (sym opened) c.requires.idle.1,
      c.requires.slots ∙ ap (λ (o : Opening). o.threads * o.tokens) (sym opened),
    )

pub new-requires-clause-alone : goal.new-requires-clause-alone
new-requires-clause-alone g c =
    let r = c.cut_token-alone.ensures.resting.1 in
    let less = c.loop-index-test.true in
    let next = ap (λ m. next_of (hand_of m.0).at_home) c.loop-index.invariant.view
    ∙ ap next_of (count_first (c.args.first + c.loop-index.index) (c.args.count - c.loop-index.index)
    (λ none. omega (arith, less))) in
    r ∙ (λ i. (resting_view (sym (ap (λ m. m.0.opened) r) i) (next i), []))

pub loop-index-preserved : goal.loop-index-preserved
loop-index-preserved g c =
    let i = c.loop-index.invariant in
    let less = c.loop-index-test.true in
    let q = queue_of c.args.seat.now.table_id c.args.seat.now.me.0.opened in
    let opened = ap (λ m. m.0.opened) c.cut_token-alone.ensures.resting.1 ∙ ap (λ m. m.0.opened) i.view in
    let table = c.cut_token-alone.ensures.resting.0 ∙ i.table in
    record {
      table = c.cut_token-alone.ensures.same.0 ∙ i.table;
      view = cut_on c.args.seat.now.me c.args.first c.args.count c.loop-index.index less i.view
          c.cut_token-alone.ensures.same.1;
      cut =
          c.in_ok-push.ensures.items
          ∙ (λ k. i.cut k ++ (c.new.ensures ∙ (λ j. record {
            queue = queue_of (table j) (opened j);
            number = c.args.first + c.loop-index.index;
          })) k ∷ [])
          ∙ append_assoc c.args.tokens.now.items (tokens_from q c.args.first c.loop-index.index) _
          ∙ ap (λ ts. c.args.tokens.now.items ++ ts) (sym (tokens_from-snoc q c.args.first c.loop-index.index));
      within = omega (arith, less);
    }

pub returns-clause-same : goal.returns-clause-same
returns-clause-same g c =
    let i = c.loop-index.invariant in
    let past = c.loop-index-test.false in
    let none : c.args.count - c.loop-index.index ≡ 0 = omega (arith, past) in (
      i.table,
      i.view
          ∙ ap (λ n. (
            with_home c.args.seat.now.me.0 (count_up (c.args.first + c.loop-index.index) n),
            c.args.seat.now.me.1,
          )) none,
    )

pub returns-clause-tokens : goal.returns-clause-tokens
returns-clause-tokens g c =
    let i = c.loop-index.invariant in
    let past = c.loop-index-test.false in
    let within = i.within in
    let all : c.loop-index.index ≡ c.args.count = omega (arith, past, within) in
    i.cut ∙ ap (λ n. c.args.tokens.now.items
    ++ tokens_from (queue_of c.args.seat.now.table_id c.args.seat.now.me.0.opened) c.args.first n) all
