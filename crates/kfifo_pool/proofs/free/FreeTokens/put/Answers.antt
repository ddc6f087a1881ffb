use Rattle.std.proofs.Common.{◌≡◌, ◌++◌, ◌∷◌, [], List, ap, sym, ◌∙◌, append_assoc, inl}
use Rattle.kfifo_live.specs.Payloads.{TokenView}
use Rattle.kfifo_pool.specs.Pooled.{all_free, in_list}
use Rattle.kfifo_pool.proofs.Lists.{adds_of, keeps_one}
use Rattle.kfifo_pool.proofs.free.FreeTokens.put.Goals as goal

-- a token comes behind the recent ones
one_more : (others old new : List TokenView) (token : TokenView) → new ≡ old ++ token ∷ []
    → others ++ new ≡ (others ++ old) ++ token ∷ []
one_more others old new token more = ap (λ l. others ++ l) more ∙ sym (append_assoc others old (token ∷ []))

pub returns-then-len-clause-keeps : goal.returns-then-len-clause-keeps
returns-then-len-clause-keeps g c =
    let f = c.self.inside in let new = c.push_reserved.new.self.items in
    keeps_one c.args.token (all_free c.args.self.now) (in_list f.others ++ new)
    (one_more (in_list f.others) f.recent.items new c.args.token c.push_reserved.ensures.items
    ∙ ap (λ free. all_free free ++ c.args.token ∷ []) c.self.view_is)

pub returns-then-len-clause-of : goal.returns-then-len-clause-of
returns-then-len-clause-of g c =
    let f = c.self.inside in let new = c.push_reserved.new.self.items in
    adds_of c.args.queue.now c.args.token (all_free c.args.self.now) (in_list f.others ++ new) c.requires.of.1
    (inl (one_more (in_list f.others) f.recent.items new c.args.token c.push_reserved.ensures.items
    ∙ ap (λ free. all_free free ++ c.args.token ∷ []) c.self.view_is)) c.requires.of.0
