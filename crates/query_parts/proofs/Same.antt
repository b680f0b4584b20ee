-- The tests of sameness decide equality.
use Rattle.std.proofs.Common.{◌≡◌, List, [], ◌∷◌, refl, ap, subst}
use Rattle.std.specs.Prelude.{Bool, true, ◌&&◌}
use Rattle.std.specs.Bool.{Decides}
use Rattle.std.specs.Ordering.{is_eq}
use Rattle.std.specs.declared.cmp.Ordering.{Ordering}
use Rattle.std.specs.declared.cmp.Ordering.TheVariants.{Less, Equal, Greater}
use Rattle.std.proofs.lemmas.Cmp.{tied_itself}
use Rattle.sd_value.specs.declared.Value.{Value}
use Rattle.sd_value.specs.Order.{bytes_cmp, value_cmp}
use Rattle.sd_value.specs.OrderLaws.{bytes_cmp-exact, bytes_cmp-total, value_cmp-exact, value_cmp-total}
use Rattle.value_texts.specs.declared.TextTest.TheVariants.{Starts, Ends, Has}
use Rattle.rpe.specs.Regex.{Regex, label, any, empty, seq, alt, star}
use Rattle.sd_value.specs.Names.{Name}
use Rattle.query_spec.specs.declared.Op.{Op}
use Rattle.query_spec.specs.declared.Op.TheVariants.{Eq, Ne, Lt, Le, Gt, Ge, Texts}
use Rattle.query_spec.specs.declared.Test.{Test}
use Rattle.query_spec.specs.declared.Test.TheVariants.{IsInt, IsText, IsUrl, IsFile, IsNode}
use Rattle.query_spec.specs.Query.{Operand, variable, constant, PathStep, arc_variable, expression, Condition, member, path, compare, one_of, kind, negation, SkolemTerm, Target, plain, made}
use Rattle.query_spec.specs.Query.{Aggregate, count_of, min_of, max_of, sum_of, summed}
use Rattle.query_spec.specs.Mentions.{same_name}
use Rattle.query_parts.specs.Same.{same_list, same_value, same_regex, same_op, same_test, same_operand, same_step, same_condition, same_term, same_aggregate, same_target}
use Rattle.query_parts.proofs.Bools.{never, always, as_well, both}

tie : (o : Ordering) → is_eq o ≡ true → o ≡ Equal
tie Less e = cc
tie Equal e = refl
tie Greater e = cc

pub name_decides : (x y : Name) → Decides (same_name x y) (x ≡ y)
name_decides x y = (λ t. bytes_cmp-exact x y (tie (bytes_cmp x y) t), λ e. subst (λ z. same_name x z ≡ true) e (ap is_eq (tied_itself bytes_cmp-total x)))

pub value_decides : (v w : Value) → Decides (same_value v w) (v ≡ w)
value_decides v w = (λ t. value_cmp-exact v w (tie (value_cmp v w) t), λ e. subst (λ z. same_value v z ≡ true) e (ap is_eq (tied_itself value_cmp-total v)))

pub list_decides : {X : Type 0} (same : X → X → Bool) → ((x y : X) → Decides (same x y) (x ≡ y)) → (xs ys : List X) → Decides (same_list same xs ys) (xs ≡ ys)
list_decides same d [] [] = always refl
list_decides same d [] (y ∷ ys) = never (λ e. cc)
list_decides same d (x ∷ xs) [] = never (λ e. cc)
list_decides same d (x ∷ xs) (y ∷ ys) =
    as_well (same x y && same_list same xs ys) (λ h. λ i. h.0 i ∷ h.1 i) (λ e. (let p : x ≡ y = cc in p, let q : xs ≡ ys = cc in q))
    (both (same x y) (same_list same xs ys) (d x y) (list_decides same d xs ys))

pub op_decides : (o p : Op) → Decides (same_op o p) (o ≡ p)
op_decides Eq Eq = always refl
op_decides Ne Ne = always refl
op_decides Lt Lt = always refl
op_decides Le Le = always refl
op_decides Gt Gt = always refl
op_decides Ge Ge = always refl
op_decides (Texts Starts) (Texts Starts) = always refl
op_decides (Texts Ends) (Texts Ends) = always refl
op_decides (Texts Has) (Texts Has) = always refl
op_decides o (Texts Starts) = never (λ e. cc)
op_decides o (Texts Ends) = never (λ e. cc)
op_decides o (Texts Has) = never (λ e. cc)
op_decides (Texts Starts) p = never (λ e. cc)
op_decides (Texts Ends) p = never (λ e. cc)
op_decides (Texts Has) p = never (λ e. cc)
op_decides o p = never (λ e. cc)

pub test_decides : (o p : Test) → Decides (same_test o p) (o ≡ p)
test_decides IsInt IsInt = always refl
test_decides IsText IsText = always refl
test_decides IsUrl IsUrl = always refl
test_decides IsFile IsFile = always refl
test_decides IsNode IsNode = always refl
test_decides o p = never (λ e. cc)

pub regex_decides : (a b : Regex) → Decides (same_regex a b) (a ≡ b)
regex_decides (label l) (label m) = as_well (same_name l m) (ap label) (λ e. let p : l ≡ m = cc in p) (name_decides l m)
regex_decides any any = always refl
regex_decides empty empty = always refl
regex_decides (seq a b) (seq c d) =
    as_well (same_regex a c && same_regex b d) (λ h. λ i. seq (h.0 i) (h.1 i)) (λ e. (let p : a ≡ c = cc in p, let q : b ≡ d = cc in q))
    (both (same_regex a c) (same_regex b d) (regex_decides a c) (regex_decides b d))
regex_decides (alt a b) (alt c d) =
    as_well (same_regex a c && same_regex b d) (λ h. λ i. alt (h.0 i) (h.1 i)) (λ e. (let p : a ≡ c = cc in p, let q : b ≡ d = cc in q))
    (both (same_regex a c) (same_regex b d) (regex_decides a c) (regex_decides b d))
regex_decides (star a) (star b) = as_well (same_regex a b) (ap star) (λ e. let p : a ≡ b = cc in p) (regex_decides a b)
regex_decides a b = never (λ e. cc)

pub operand_decides : (t u : Operand) → Decides (same_operand t u) (t ≡ u)
operand_decides (variable x) (variable y) = as_well (same_name x y) (ap variable) (λ e. let p : x ≡ y = cc in p) (name_decides x y)
operand_decides (variable x) (constant w) = never (λ e. cc)
operand_decides (constant v) (variable y) = never (λ e. cc)
operand_decides (constant v) (constant w) = as_well (same_value v w) (ap constant) (λ e. let p : v ≡ w = cc in p) (value_decides v w)

step_decides : (s t : PathStep) → Decides (same_step s t) (s ≡ t)
step_decides (arc_variable x) (arc_variable y) = as_well (same_name x y) (ap arc_variable) (λ e. let p : x ≡ y = cc in p) (name_decides x y)
step_decides (arc_variable x) (expression s) = never (λ e. cc)
step_decides (expression r) (arc_variable y) = never (λ e. cc)
step_decides (expression r) (expression s) = as_well (same_regex r s) (ap expression) (λ e. let p : r ≡ s = cc in p) (regex_decides r s)

pub condition_decides : (c d : Condition) → Decides (same_condition c d) (c ≡ d)
condition_decides (member c x) (member d y) =
    as_well (same_name c d && same_name x y) (λ h. λ i. member (h.0 i) (h.1 i)) (λ e. (let p : c ≡ d = cc in p, let q : x ≡ y = cc in q))
    (both (same_name c d) (same_name x y) (name_decides c d) (name_decides x y))
condition_decides (path t s u) (path v w z) =
    as_well (same_operand t v && (same_step s w && same_operand u z)) (λ h. λ i. path (h.0 i) (h.1.0 i) (h.1.1 i)) (λ e. (let p : t ≡ v = cc in p, (let q : s ≡ w = cc in q, let r : u ≡ z = cc in r)))
    (both (same_operand t v) (same_step s w && same_operand u z) (operand_decides t v) (both (same_step s w) (same_operand u z) (step_decides s w) (operand_decides u z)))
condition_decides (compare t o u) (compare v p z) =
    as_well (same_operand t v && (same_op o p && same_operand u z)) (λ h. λ i. compare (h.0 i) (h.1.0 i) (h.1.1 i)) (λ e. (let a : t ≡ v = cc in a, (let b : o ≡ p = cc in b, let c : u ≡ z = cc in c)))
    (both (same_operand t v) (same_op o p && same_operand u z) (operand_decides t v) (both (same_op o p) (same_operand u z) (op_decides o p) (operand_decides u z)))
condition_decides (one_of t vs) (one_of u ws) =
    as_well (same_operand t u && same_list same_value vs ws) (λ h. λ i. one_of (h.0 i) (h.1 i)) (λ e. (let p : t ≡ u = cc in p, let q : vs ≡ ws = cc in q))
    (both (same_operand t u) (same_list same_value vs ws) (operand_decides t u) (list_decides same_value value_decides vs ws))
condition_decides (kind s x) (kind t y) =
    as_well (same_test s t && same_name x y) (λ h. λ i. kind (h.0 i) (h.1 i)) (λ e. (let p : s ≡ t = cc in p, let q : x ≡ y = cc in q))
    (both (same_test s t) (same_name x y) (test_decides s t) (name_decides x y))
condition_decides (negation c) (negation d) = as_well (same_condition c d) (ap negation) (λ e. let p : c ≡ d = cc in p) (condition_decides c d)
condition_decides c d = never (λ e. cc)

pub term_decides : (s t : SkolemTerm) → Decides (same_term s t) (s ≡ t)
term_decides s t =
    as_well (same_name s.function t.function && same_list same_operand s.args t.args) (λ h. λ i. record { function = h.0 i; args = h.1 i })
    (λ e. (ap (λ (z : SkolemTerm). z.function) e, ap (λ (z : SkolemTerm). z.args) e))
    (both (same_name s.function t.function) (same_list same_operand s.args t.args) (name_decides s.function t.function) (list_decides same_operand operand_decides s.args t.args))

pub aggregate_decides : (a b : Aggregate) → Decides (same_aggregate a b) (a ≡ b)
aggregate_decides (count_of v) (count_of w) = as_well (same_name v w) (ap count_of) (λ e. let p : v ≡ w = cc in p) (name_decides v w)
aggregate_decides (min_of v) (min_of w) = as_well (same_name v w) (ap min_of) (λ e. let p : v ≡ w = cc in p) (name_decides v w)
aggregate_decides (max_of v) (max_of w) = as_well (same_name v w) (ap max_of) (λ e. let p : v ≡ w = cc in p) (name_decides v w)
aggregate_decides (sum_of v x) (sum_of w y) =
    as_well (same_name v w && same_name x y) (λ h. λ i. sum_of (h.0 i) (h.1 i)) (λ e. (let p : v ≡ w = cc in p, let q : x ≡ y = cc in q))
    (both (same_name v w) (same_name x y) (name_decides v w) (name_decides x y))
aggregate_decides a b = never (λ e. cc)

pub target_decides : (s t : Target) → Decides (same_target s t) (s ≡ t)
target_decides (plain o) (plain p) = as_well (same_operand o p) (ap plain) (λ e. let q : o ≡ p = cc in q) (operand_decides o p)
target_decides (plain o) (made t) = never (λ e. cc)
target_decides (made s) (plain p) = never (λ e. cc)
target_decides (made s) (made t) = as_well (same_term s t) (ap made) (λ e. let q : s ≡ t = cc in q) (term_decides s t)
target_decides (summed a) (summed b) = as_well (same_aggregate a b) (ap summed) (λ e. let q : a ≡ b = cc in q) (aggregate_decides a b)
target_decides (summed a) (plain p) = never (λ e. cc)
target_decides (summed a) (made t) = never (λ e. cc)
target_decides (plain o) (summed b) = never (λ e. cc)
target_decides (made s) (summed b) = never (λ e. cc)
