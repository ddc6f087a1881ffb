-- The seal is tried by an idle thread, with the word that a seal leaves.
use Rattle.std.proofs.Common.{◌≡◌, ◌∙◌, sym, true}
use Rattle.std.specs.Prelude.{◌==◌}
use Rattle.kfifo_words.specs.Words.{ends_word}
use Rattle.kfifo_machine.specs.Program.{sealed_word}
use Rattle.kfifo_machine.specs.Machine.{may_seal}
use Rattle.kfifo_live.proofs.Keeps.{either-cond}
use Rattle.kfifo_live.proofs.SealSteps.{seals}
use Rattle.kfifo_live.proofs.seats.try_seal.Goals as goal

pub compare_exchange-found-requires : goal.compare_exchange-found-requires
compare_exchange-found-requires g c =
    let me = c.args.seat.now.me in
    let sought : c.bits.result ≡ c.args.ends = c.bits.ensures.bits in
    let sealed : c.bits-2.result ≡ sealed_word me.0.opened.shape c.bits.result =
    c.bits-2.ensures.bits ∙ c.pack-sealed.ensures.word
    ∙ (λ k. ends_word (c.head.ensures.value k) (c.tail.ensures.value k) (c.last.ensures k))
    ∙ (λ k. sealed_word (sym c.requires.shape k) (sym sought k)) in
    let may : may_seal me.0.opened.shape c.bits.result ≡ true = (λ k. may_seal (c.requires.shape k) (sought k))
    ∙ c.requires.may in (
      c.requires.table.0,
      c.requires.table.1,
      seals _ _ _ me c.bits.result c.bits-2.result _ c.requires.idle sealed may
          (λ n. either-cond (n == c.bits.result) c.bits-2.result n),
    )
