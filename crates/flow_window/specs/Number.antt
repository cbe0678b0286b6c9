-- What contracts see of the number of a buffer.
use Rattle.flow_window.specs.Pool.{Buffer}
use Rattle.flow_window.specs.declared.pool.number.BufNo.TheInside.{Inside}

abbrev pub buffer_of : Inside → Buffer
buffer_of a = record { number = a.number; octets = a.given.octets }
