-- Functions beside their marks.
use Rattle.std.proofs.Common.{◌≡◌, ◌∙◌, ℕ, ◌+◌, ◌<◌, Bool, false, List, [], ◌∷◌, length, map}
use Rattle.std.proofs.Common.{get_or, refl, ap, suc, arith}
use Rattle.std.specs.List.{enumerate_from, zip}
use Rattle.module_rules.specs.Lookup.{function_decl, function_decls}
use Rattle.module_rules.specs.declared.items.DeclaredFunction.{DeclaredFunction}

-- functions beside their marks are those beside their indices
pub decls-marked : (f : ℕ → Bool) (fs : List DeclaredFunction) (ms : List Bool) (n : ℕ) → length ms ≡ length fs
    → ((k : ℕ) → k < length fs → get_or ms k false ≡ f (n + k))
    → map (λ (e : DeclaredFunction × Bool). function_decl e.0 e.1) (zip fs ms) ≡ function_decls f (enumerate_from n fs)
decls-marked f [] ms n l h = refl
decls-marked f (g ∷ gs) [] n l h = cc
decls-marked f (g ∷ gs) (m ∷ ms) n l h =
    let here : 0 < length (g ∷ gs) = omega arith in
    let first : n + 0 ≡ n = omega arith in
    let same : length ms ≡ length gs = cc in
    let rest = decls-marked f gs ms (n + 1) same (λ k b.
    let later : suc k < length (g ∷ gs) = omega arith in
    let at : n + suc k ≡ (n + 1) + k = omega arith in
    h (suc k) later ∙ ap f at) in
    ap (λ b. function_decl g b ∷ map (λ (e : DeclaredFunction × Bool). function_decl e.0 e.1) (zip gs ms)) (h 0 here ∙ ap f first)
    ∙ ap (λ xs. function_decl g (f n) ∷ xs) rest
