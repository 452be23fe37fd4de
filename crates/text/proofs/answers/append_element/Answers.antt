use Rattle.std.proofs.Common.{◌≡◌, ℕ, List, [], ◌∷◌, ◌++◌, vec_items, Bor, Some, None, Option, refl, ap, ◌∙◌, subst}
use Rattle.std.specs.Option.{option_map, unwrap_or}
use Rattle.text.specs.Texts.{indent, bytes_text, AppendsText}
use Rattle.text.proofs.Written.{fails_first, behind}
use Rattle.text.proofs.answers.append_element.Goals as goal

-- the bytes that are lent, or others
now_of : (o : Option (Bor (List ℕ))) (d : Bor (List ℕ)) → (unwrap_or o d).now ≡ unwrap_or (option_map (λ x. x.now) o) d.now
now_of None d = refl
now_of (Some x) d = refl

pub returns-in_err-push_indent : goal.returns-in_err-push_indent
returns-in_err-push_indent c = fails_first _ _ _ _ _ c.from_residual.ensures.0 c.in_err-push_indent.ensures

pub returns : goal.returns
returns c =
    let shown : c.unwrap_or.result.now ≡ unwrap_or (option_map (λ x. x.now) c.args.contents) [] = ap (λ x. x.now) c.unwrap_or.ensures ∙ now_of c.args.contents _ in
    subst (λ l. AppendsText c.push_figures.result (vec_items c.args.out.now) (indent c.args.level ++ bytes_text (c.args.tag ∷ l)) (vec_items c.push_figures.new.out)) shown
    (behind c.push_figures.result _ (indent c.args.level) _ (bytes_text (c.args.tag ∷ c.unwrap_or.result.now)) _ c.in_ok-push_indent.ensures c.push_figures.ensures)
