use Rattle.std.proofs.Common.{◌≡◌, ℕ, suc, ◌+◌, ◌-◌, ◌*◌, ◌<◌, ◌≤◌, [], ◌∷◌, length, reverse, ap, ◌∙◌, arith, rules}
use Rattle.std.proofs.Common.{suc-mul, mul-le-mul_right}
use Rattle.std.proofs.lemmas.List.{reverse-append, length-append}
use Rattle.kfifo_live.specs.Schedule.{count_up}
use Rattle.kfifo_live.proofs.payload.opening.own_tokens.Goals as goal

pub loop-index-init : goal.loop-index-init
loop-index-init c =
    let e = c.in_ok-at_home.ensures in
    let room = e.capacity in
    let more = c.requires.tokens in
    record { stacked = ap reverse e.items; size = ap length e.items; within = omega arith; room = search rules }

pub push_reserved-requires : goal.push_reserved-requires
push_reserved-requires c =
    let i = c.loop-index.invariant in
    let size = i.size in
    let room = i.room in
    let more = c.requires.tokens.1 in
    let less = c.loop-index-test.true in
    omega arith

pub loop-index-preserved : goal.loop-index-preserved
loop-index-preserved c =
    let i = c.loop-index.invariant in
    let p = c.push_reserved.ensures in
    let less : c.loop-index.index < c.args.tokens = c.loop-index-test.true in
    let last = (c.args.thread + 1) * c.args.tokens in
    let up = mul-le-mul_right c.args.tokens (let le : 1 ≤ c.args.thread + 1 = omega arith in le) in
    let below : c.loop-index.index < last = omega (arith, up, less) in
    let room = i.room in
    let capacity = p.capacity in
    let size = i.size in
    let long = ap length p.items ∙ length-append c.loop-index.at_home.items ((last - c.loop-index.index) ∷ []) in
    record {
      stacked =
          ap reverse p.items
          ∙ reverse-append c.loop-index.at_home.items ((last - c.loop-index.index) ∷ [])
          ∙ ap (λ xs. (last - c.loop-index.index) ∷ xs) i.stacked
          ∙ ap (λ (x : ℕ × ℕ). x.0 ∷ count_up x.1 c.loop-index.index)
          (λ k. (
            (let e : last - c.loop-index.index ≡ last - (c.loop-index.index + 1) + 1 = omega (arith, below) in e) k,
            (let e : last - c.loop-index.index + 1 ≡ suc (last - (c.loop-index.index + 1) + 1) =
                omega (arith, below) in e) k,
          ))
          ∙ ap (count_up (last - (c.loop-index.index + 1) + 1))
          (let e : suc c.loop-index.index ≡ c.loop-index.index + 1 = omega arith in e);
      size = omega arith;
      within = omega arith;
      room = omega arith;
    }

pub returns : goal.returns
returns c =
    let i = c.loop-index.invariant in
    let within = i.within in
    let past = c.loop-index-test.false in
    let all : c.loop-index.index ≡ c.args.tokens = omega arith in
    let more : (c.args.thread + 1) * c.args.tokens ≡ c.args.thread * c.args.tokens + c.args.tokens =
    ap (λ n. n * c.args.tokens) (let e : c.args.thread + 1 ≡ suc c.args.thread = omega arith in e)
    ∙ (let s = suc-mul c.args.thread c.args.tokens in omega (arith, s)) in
    let first : (c.args.thread + 1) * c.args.tokens - c.args.tokens + 1 ≡ c.args.thread * c.args.tokens + 1 =
    omega (arith, more) in (
      i.stacked ∙ ap (λ n. count_up ((c.args.thread + 1) * c.args.tokens - n + 1) n) all
          ∙ ap (λ n. count_up n c.args.tokens) first,
      i.room,
    )
