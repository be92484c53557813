-- The first words of the lines of a script.
use Rattle.std.specs.Prelude.{ℕ, cond, List, codes, Some, None, Option}
use Rattle.std.specs.Str.{bytes_eq}
use Rattle.scripts.specs.declared.order.Order.{Order}
use Rattle.scripts.specs.declared.order.Order.TheVariants as order

abbrev pub order_named : List ℕ → Option Order
order_named w =
    cond (bytes_eq w (codes "module")) (Some order.Module) (
    cond (bytes_eq w (codes "send")) (Some order.Send) (
    cond (bytes_eq w (codes "type")) (Some order.Type) (
    cond (bytes_eq w (codes "byte")) (Some order.Byte) (
    cond (bytes_eq w (codes "tick")) (Some order.Tick) (
    cond (bytes_eq w (codes "levels")) (Some order.Levels) (
    cond (bytes_eq w (codes "power-up")) (Some order.PowerUp) (
    cond (bytes_eq w (codes "room")) (Some order.Room) (
    cond (bytes_eq w (codes "lent")) (Some order.Lent) (
    cond (bytes_eq w (codes "fault")) (Some order.Fault) (
    cond (bytes_eq w (codes "state")) (Some order.State) (
    None)))))))))))
