-- What is equal to one thing is equal; and pairs are equal part by part.
use mathlib.Core.Path.{◌≡◌, sym, ◌∙◌}

pub as_one : {A : Type 0} {x y z : A} → x ≡ z → y ≡ z → x ≡ y
as_one e f = e ∙ sym f

pub part_by_part : {A B : Type 0} {v w : A × B} → v.0 ≡ w.0 → v.1 ≡ w.1 → v ≡ w
part_by_part e f = λ i. (e i, f i)
