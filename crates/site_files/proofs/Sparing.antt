-- Puts that spare equal bytes, one after another.
use Rattle.std.proofs.Common.{◌≡◌, ◌∙◌, ℕ, List, [], ◌∷◌, ◌++◌, refl, sym, ap}
use Rattle.std.specs.Prelude.{Option, Some, Result, Ok, Err, OnOk, ⊤}
use Rattle.happenings.specs.Happening.{Happening, WriteFailed}
use Rattle.edge_io.specs.Files.{FileMap}
use Rattle.files_spec.specs.declared.stop.Stop.{Stop}
use Rattle.files_spec.specs.Writes.{after_put, SpareEqual}
use Rattle.site_files.specs.Traced.{after_puts, IsSparing, AreSparing}

after_append : (map : FileMap) (a b : List Happening) → after_puts map (a ++ b) ≡ after_puts (after_puts map a) b
after_append map [] b = refl
after_append map (h ∷ a) b = after_append (after_put map h) a b

spare_append : (map : FileMap) (a b : List Happening) → SpareEqual map a → SpareEqual (after_puts map a) b → SpareEqual map (a ++ b)
spare_append map [] b x y = y
spare_append map (h ∷ a) b x y = (x.0, spare_append (after_put map h) a b x.1 y)

on_ok : {P Q : Type 0} (end : Result ⊤ Stop) → (P → Q) → OnOk end P → OnOk end Q
on_ok (Ok u) f p = f p
on_ok (Err stop) f p = tt

-- some puts, and then others
pub sparing_then : (o n l : Option FileMap) (a b : List Happening) (end : Result ⊤ Stop) → AreSparing o n a (Ok tt) → AreSparing n l b end → AreSparing o l (a ++ b) end
sparing_then o n l a b end x y = record {
  spare = λ map is. spare_append map a b (x.spare map is) (y.spare (after_puts map a) (x.leave map is));
  leave = on_ok end (λ leave map is. leave (after_puts map a) (x.leave map is) ∙ ap (λ (m : FileMap). Some m) (sym (after_append map a b))) y.leave;
}

-- nothing was put
pub sparing_none : (o n : Option FileMap) (end : Result ⊤ Stop) → n ≡ o → AreSparing o n [] end
sparing_none o n end same = record { spare = λ map is. tt; leave = on_ok {P = ⊤} end (λ u map is. same ∙ is) (all_ok end) }
  where
    all_ok : (end : Result ⊤ Stop) → OnOk end ⊤
    all_ok (Ok u) = tt
    all_ok (Err stop) = tt

-- one more put
pub sparing_one : (o n : Option FileMap) (h : Happening) → IsSparing o n h → AreSparing o n (h ∷ []) (Ok tt)
sparing_one o n h x = record { spare = λ map is. (let s = x map is in (s.0, tt)); leave = λ map is. (x map is).1 }

-- writing stops after some puts
pub sparing_stop : (o n l : Option FileMap) (a : List Happening) (stop : Stop) → AreSparing o n a (Ok tt) → AreSparing o l a (Err stop)
sparing_stop o n l a stop x = record { spare = x.spare; leave = tt }

-- a write that fails comes after some puts
pub sparing_failed : (o n l : Option FileMap) (a : List Happening) (path : List ℕ) (stop : Stop) → AreSparing o n a (Ok tt) → AreSparing o l (a ++ WriteFailed path ∷ []) (Err stop)
sparing_failed o n l a path stop x = record {
  spare = λ map is. spare_append map a (WriteFailed path ∷ []) (x.spare map is) (tt, tt);
  leave = tt;
}
