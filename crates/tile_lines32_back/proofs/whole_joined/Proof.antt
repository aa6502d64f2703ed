-- `tile_lines32_back::whole_joined`: what the four kernels give makes the odd places' sum in 64 bits.
use Rattle.std.specs.Prelude.{◌≡◌, ◌∷◌, ◌+ℤ◌, ◌-ℤ◌}
use Rattle.algebra.specs.Prelude.{refl, ap₂, ◌∙◌, rules, lit<, w64, to_z, of_z}
use Rattle.tile_spectrum.specs.Lines.DoubleCasts.{whole_is}
use Rattle.tile_lines32_back.proofs.PartSums.{joined-are}
use Rattle.tile_lines32_back.proofs.WholeParts.{even_cosine, odd_cosine, even_sine, odd_sine}
use Rattle.tile_lines32_back.proofs.whole_joined as of

returns : of.Tie.Need-returns
returns c w =
    let n15 = c in
    let n14 = n15.before in
    let n13 = n14.before in
    let n12 = n13.before in
    let n11 = n12.before in
    let n10 = n11.before in
    let n9 = n10.before in
    let n8 = n9.before in
    let n7 = n8.before in
    let n6 = n7.before in
    let n5 = n6.before in
    let n4 = n5.before in
    let n3 = n4.before in
    let n2 = n3.before in
    let n1 = n2.before in
    let n0 = n1.before in
    let h0 : to_z w64 (of_z w64 n0.whole_sum.result) ≡ n0.whole_sum.result = search rules in
    let e0 = h0 ∙ n0.whole_sum.ensures ∙ ap₂ ◌+ℤ◌ (whole_is (even_cosine w 0 (lit< tt))) (whole_is (even_cosine w 0 (lit< tt))) in
    let h1 : to_z w64 (of_z w64 n1.whole_sum-2.result) ≡ n1.whole_sum-2.result = search rules in
    let e1 = h1 ∙ n1.whole_sum-2.ensures ∙ ap₂ ◌+ℤ◌ (whole_is (odd_cosine w 0 (lit< tt))) (whole_is (odd_sine w 0 (lit< tt))) in
    let h2 : to_z w64 (of_z w64 n2.whole_sum-3.result) ≡ n2.whole_sum-3.result = search rules in
    let e2 = h2 ∙ n2.whole_sum-3.ensures ∙ ap₂ ◌+ℤ◌ (whole_is (even_cosine w 1 (lit< tt))) (whole_is (even_sine w 0 (lit< tt))) in
    let h3 : to_z w64 (of_z w64 n3.whole_sum-4.result) ≡ n3.whole_sum-4.result = search rules in
    let e3 = h3 ∙ n3.whole_sum-4.ensures ∙ ap₂ ◌+ℤ◌ (whole_is (odd_cosine w 1 (lit< tt))) (whole_is (odd_sine w 1 (lit< tt))) in
    let h4 : to_z w64 (of_z w64 n4.whole_sum-5.result) ≡ n4.whole_sum-5.result = search rules in
    let e4 = h4 ∙ n4.whole_sum-5.ensures ∙ ap₂ ◌+ℤ◌ (whole_is (even_cosine w 2 (lit< tt))) (whole_is (even_sine w 1 (lit< tt))) in
    let h5 : to_z w64 (of_z w64 n5.whole_sum-6.result) ≡ n5.whole_sum-6.result = search rules in
    let e5 = h5 ∙ n5.whole_sum-6.ensures ∙ ap₂ ◌+ℤ◌ (whole_is (odd_cosine w 2 (lit< tt))) (whole_is (odd_sine w 2 (lit< tt))) in
    let h6 : to_z w64 (of_z w64 n6.whole_sum-7.result) ≡ n6.whole_sum-7.result = search rules in
    let e6 = h6 ∙ n6.whole_sum-7.ensures ∙ ap₂ ◌+ℤ◌ (whole_is (even_cosine w 3 (lit< tt))) (whole_is (even_sine w 2 (lit< tt))) in
    let h7 : to_z w64 (of_z w64 n7.whole_sum-8.result) ≡ n7.whole_sum-8.result = search rules in
    let e7 = h7 ∙ n7.whole_sum-8.ensures ∙ ap₂ ◌+ℤ◌ (whole_is (odd_cosine w 3 (lit< tt))) (whole_is (odd_sine w 3 (lit< tt))) in
    let h8 : to_z w64 (of_z w64 n8.whole_sum-9.result) ≡ n8.whole_sum-9.result = search rules in
    let e8 = h8 ∙ n8.whole_sum-9.ensures ∙ ap₂ ◌+ℤ◌ (whole_is (even_sine w 3 (lit< tt))) (whole_is (even_sine w 3 (lit< tt))) in
    let h9 : to_z w64 (of_z w64 n9.whole_difference.result) ≡ n9.whole_difference.result = search rules in
    let e9 = h9 ∙ n9.whole_difference.ensures ∙ ap₂ ◌-ℤ◌ (whole_is (odd_sine w 3 (lit< tt))) (whole_is (odd_cosine w 3 (lit< tt))) in
    let h10 : to_z w64 (of_z w64 n10.whole_difference-2.result) ≡ n10.whole_difference-2.result = search rules in
    let e10 = h10 ∙ n10.whole_difference-2.ensures ∙ ap₂ ◌-ℤ◌ (whole_is (even_sine w 2 (lit< tt))) (whole_is (even_cosine w 3 (lit< tt))) in
    let h11 : to_z w64 (of_z w64 n11.whole_difference-3.result) ≡ n11.whole_difference-3.result = search rules in
    let e11 = h11 ∙ n11.whole_difference-3.ensures ∙ ap₂ ◌-ℤ◌ (whole_is (odd_sine w 2 (lit< tt))) (whole_is (odd_cosine w 2 (lit< tt))) in
    let h12 : to_z w64 (of_z w64 n12.whole_difference-4.result) ≡ n12.whole_difference-4.result = search rules in
    let e12 = h12 ∙ n12.whole_difference-4.ensures ∙ ap₂ ◌-ℤ◌ (whole_is (even_sine w 1 (lit< tt))) (whole_is (even_cosine w 2 (lit< tt))) in
    let h13 : to_z w64 (of_z w64 n13.whole_difference-5.result) ≡ n13.whole_difference-5.result = search rules in
    let e13 = h13 ∙ n13.whole_difference-5.ensures ∙ ap₂ ◌-ℤ◌ (whole_is (odd_sine w 1 (lit< tt))) (whole_is (odd_cosine w 1 (lit< tt))) in
    let h14 : to_z w64 (of_z w64 n14.whole_difference-6.result) ≡ n14.whole_difference-6.result = search rules in
    let e14 = h14 ∙ n14.whole_difference-6.ensures ∙ ap₂ ◌-ℤ◌ (whole_is (even_sine w 0 (lit< tt))) (whole_is (even_cosine w 1 (lit< tt))) in
    let h15 : to_z w64 (of_z w64 n15.whole_difference-7.result) ≡ n15.whole_difference-7.result = search rules in
    let e15 = h15 ∙ n15.whole_difference-7.ensures ∙ ap₂ ◌-ℤ◌ (whole_is (odd_sine w 0 (lit< tt))) (whole_is (odd_cosine w 0 (lit< tt))) in
    ap₂ ◌∷◌ e0 (ap₂ ◌∷◌ e1 (ap₂ ◌∷◌ e2 (ap₂ ◌∷◌ e3 (ap₂ ◌∷◌ e4 (ap₂ ◌∷◌ e5 (ap₂ ◌∷◌ e6 (ap₂ ◌∷◌ e7 (ap₂ ◌∷◌ e8 (ap₂ ◌∷◌ e9 (ap₂ ◌∷◌ e10 (ap₂ ◌∷◌ e11 (ap₂ ◌∷◌ e12 (ap₂ ◌∷◌ e13 (ap₂ ◌∷◌ e14 (ap₂ ◌∷◌ e15 refl)))))))))))))))
    ∙ joined-are w.number

pub whole_joined_spec : {M : Type 1} → of.Statement.statement M
whole_joined_spec = of.Tie.close (of.Tie.spec
    (λ c. search rules) (λ c. search rules) (λ c κs. (even_cosine c.requires 0 (lit< tt), even_cosine c.requires 0 (lit< tt)))
    (λ c. search rules) (λ c. search rules) (λ c κs. (odd_cosine c.before.requires 0 (lit< tt), odd_sine c.before.requires 0 (lit< tt)))
    (λ c. search rules) (λ c. search rules) (λ c κs. (even_cosine c.before.before.requires 1 (lit< tt), even_sine c.before.before.requires 0 (lit< tt)))
    (λ c. search rules) (λ c. search rules) (λ c κs. (odd_cosine c.before.before.before.requires 1 (lit< tt), odd_sine c.before.before.before.requires 1 (lit< tt)))
    (λ c. search rules) (λ c. search rules) (λ c κs. (even_cosine c.before.before.before.before.requires 2 (lit< tt), even_sine c.before.before.before.before.requires 1 (lit< tt)))
    (λ c. search rules) (λ c. search rules) (λ c κs. (odd_cosine c.before.before.before.before.before.requires 2 (lit< tt), odd_sine c.before.before.before.before.before.requires 2 (lit< tt)))
    (λ c. search rules) (λ c. search rules) (λ c κs. (even_cosine c.before.before.before.before.before.before.requires 3 (lit< tt), even_sine c.before.before.before.before.before.before.requires 2 (lit< tt)))
    (λ c. search rules) (λ c. search rules) (λ c κs. (odd_cosine c.before.before.before.before.before.before.before.requires 3 (lit< tt), odd_sine c.before.before.before.before.before.before.before.requires 3 (lit< tt)))
    (λ c. search rules) (λ c. search rules) (λ c κs. (even_sine c.before.before.before.before.before.before.before.before.requires 3 (lit< tt), even_sine c.before.before.before.before.before.before.before.before.requires 3 (lit< tt)))
    (λ c. search rules) (λ c. search rules) (λ c κs. (odd_sine c.before.before.before.before.before.before.before.before.before.requires 3 (lit< tt), odd_cosine c.before.before.before.before.before.before.before.before.before.requires 3 (lit< tt)))
    (λ c. search rules) (λ c. search rules) (λ c κs. (even_sine c.before.before.before.before.before.before.before.before.before.before.requires 2 (lit< tt), even_cosine c.before.before.before.before.before.before.before.before.before.before.requires 3 (lit< tt)))
    (λ c. search rules) (λ c. search rules) (λ c κs. (odd_sine c.before.before.before.before.before.before.before.before.before.before.before.requires 2 (lit< tt), odd_cosine c.before.before.before.before.before.before.before.before.before.before.before.requires 2 (lit< tt)))
    (λ c. search rules) (λ c. search rules) (λ c κs. (even_sine c.before.before.before.before.before.before.before.before.before.before.before.before.requires 1 (lit< tt), even_cosine c.before.before.before.before.before.before.before.before.before.before.before.before.requires 2 (lit< tt)))
    (λ c. search rules) (λ c. search rules) (λ c κs. (odd_sine c.before.before.before.before.before.before.before.before.before.before.before.before.before.requires 1 (lit< tt), odd_cosine c.before.before.before.before.before.before.before.before.before.before.before.before.before.requires 1 (lit< tt)))
    (λ c. search rules) (λ c. search rules) (λ c κs. (even_sine c.before.before.before.before.before.before.before.before.before.before.before.before.before.before.requires 0 (lit< tt), even_cosine c.before.before.before.before.before.before.before.before.before.before.before.before.before.before.requires 1 (lit< tt)))
    (λ c. search rules) (λ c. search rules) (λ c κs. (odd_sine c.before.before.before.before.before.before.before.before.before.before.before.before.before.before.before.requires 0 (lit< tt), odd_cosine c.before.before.before.before.before.before.before.before.before.before.before.before.before.before.before.requires 0 (lit< tt)))
    returns)
